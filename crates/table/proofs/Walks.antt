-- A walk over the cells of w bytes in a run of bytes, as `chunks_exact` makes it.
use Rattle.std.proofs.Common.{◌≡◌, ℕ, zero, suc, ◌+◌, ◌/◌, ◌<◌, ◌≤◌, true, false, cond, List, ◌∷◌, ◌++◌, length, get_or, drop, sym, refl, ap, ◌∙◌, add-one, arith, length-append, length-drop, ◌-◌, ap₂, add-mul, one-mul, zero-mul, Bool, le-ltb, lt-ltb, [], ◌⊎◌, inl, inr, Option, Some, None, MatchOption, IfSome, IsSomeAnd, option_map, take, ◌*◌, bit_xor}
use Rattle.std.specs.Int.Bits.{xor_zero_r}
use Rattle.std.specs.Int.Digits.{number_from_digits}
use Rattle.std.proofs.lemmas.List.{take_at, drop_at, drop-drop}
use Rattle.std.proofs.lemmas.Nat.{div-mul-add}
use Rattle.span.specs.Sets.{has}
use Rattle.span.specs.Fillings.{pick, xor_over}
use Rattle.span.proofs.Xors.{xor_over_none, xor_over_more, xor_over_same}
use Rattle.table.proofs.Blocks.{word_of, get_or_cut}
use Rattle.table.specs.Questions.{xor_in}
use Rattle.table.specs.Images.{cut, words_in, below, First}

pub length_cut : (w m : ℕ) (bs : List ℕ) → length (cut w m bs) ≡ m
length_cut w zero bs = refl
length_cut w (suc m) bs = ap suc (length_cut w m (drop w bs))

pub cut_more : (w m : ℕ) (x rest : List ℕ) → length x ≡ w → cut w (suc m) (x ++ rest) ≡ number_from_digits 256 x ∷ cut w m rest
cut_more w m x rest h = rw (take_at x rest w h, drop_at x rest w h)

-- ---- the first word that is not below a limit

-- so many words are below it, where each of them is, and where they are all or the next is not
pub below_is : (limit : ℕ) (xs : List ℕ) (i : ℕ) → i ≤ length xs → ((k : ℕ) → k < i → get_or xs k 0 < limit)
    → (i ≡ length xs) ⊎ (limit ≤ get_or xs i 0) → below limit xs ≡ i
below_is limit [] zero h small stop = refl
below_is limit [] (suc i) h small stop = absurd (omega arith)
below_is limit (x ∷ xs) zero h small (inl e) = absurd (omega arith)
below_is limit (x ∷ xs) zero h small (inr l) = ap (λ b. cond b (suc (below limit xs)) zero) (le-ltb x limit l)
below_is limit (x ∷ xs) (suc i) h small stop =
    ap (λ b. cond b (suc (below limit xs)) zero) (lt-ltb x limit (small 0 (omega arith)))
    ∙ ap suc (below_is limit xs i (omega arith) (λ k l. small (suc k) (omega arith)) (next stop))
  where
    next : (suc i ≡ suc (length xs)) ⊎ (limit ≤ get_or xs i 0) → (i ≡ length xs) ⊎ (limit ≤ get_or xs i 0)
    next (inl e) = inl (omega arith)
    next (inr l) = inr l

-- what is found is the first, where each word before it is below the limit, and it is not
pub found_first : (limit w : ℕ) (bs : List ℕ) (found : Option ℕ)
    → MatchOption found ((k : ℕ) → k < length bs / w → word_of w bs k < limit)
    (λ i. (i < length bs / w) × (limit ≤ word_of w bs i) × ((k : ℕ) → k < i → word_of w bs k < limit))
    → First limit (words_in w bs) found
found_first limit w bs None small =
    let m = length bs / w in
    let long = length_cut w m bs in
    below_is limit (words_in w bs) m (omega arith) (λ k h. rw (get_or_cut w m bs k h) (small k h)) (inl (sym long)) ∙ sym long
found_first limit w bs (Some i) (within, large, small) =
    let m = length bs / w in
    let long = length_cut w m bs in (
      below_is limit (words_in w bs) i (omega arith) (λ k h. rw (get_or_cut w m bs k (omega arith)) (small k h)) (inr (rw (get_or_cut w m bs i within) large)),
      omega arith,
    )

-- ---- what a chain tells of the items that it went over

pub match_map : {T : Type 0} (o : Option T) {P P' : Type 0} {Q Q' : T → Type 0} → MatchOption o P Q → (P → P') → ((x : T) → Q x → Q' x) → MatchOption o P' Q'
match_map None m f g = f m
match_map (Some x) m f g = g x m

pub met : {A : Type 0} (o : Option A) {P Q : A → Type 0} {R : Type 0} → IsSomeAnd o P → IfSome o Q → ((x : A) → P x → Q x → R) → R
met None p q f = absurd p
met (Some x) p q f = f x p q

pub some_and : {A : Type 0} (o : Option A) (y : A) (P : A → Type 0) → option_map (λ x. x) o ≡ Some y → IfSome o P → IsSomeAnd o P
some_and None y P e p = cc
some_and (Some x) y P e p = p

-- ---- the XOR of the words in a set

-- where k cells have been passed: the iterator's size, the bytes that are left, and the XOR so far
pub record Passed (w : ℕ) (bytes : List ℕ) (mask k size : ℕ) (rest : List ℕ) (v : ℕ) : Type 0 where
  pub sized : size ≡ w
  pub within : k * w ≤ length bytes
  pub left : rest ≡ drop (k * w) bytes
  pub xor : v ≡ xor_over (word_of w bytes) k mask

-- before the first cell
pub passed_none : (w : ℕ) (bytes : List ℕ) (mask k size : ℕ) (rest : List ℕ) → size ≡ w → k ≡ 0 → rest ≡ bytes → Passed w bytes mask k size rest 0
passed_none w bytes mask k size rest s z e =
    let none : k * w ≡ 0 = ap (λ j. j * w) z ∙ zero-mul w in
    record {
      sized = s;
      within = omega (arith, none);
      left = e ∙ ap (λ j. drop j bytes) (sym none);
      xor = sym (ap (λ j. xor_over (word_of w bytes) j mask) z ∙ xor_over_none (word_of w bytes) mask);
    }

-- one cell more, of the bytes x, which is looked for in the set as cell i
pub passed_more : (w : ℕ) (bytes : List ℕ) (mask k k' i size size' : ℕ) (x rest rest' : List ℕ) (v v' : ℕ)
    → Passed w bytes mask k size rest v → k' ≡ k + 1 → i ≡ k → size' ≡ size → rest ≡ x ++ rest' → length x ≡ size
    → v' ≡ bit_xor v (pick (has mask i) (number_from_digits 256 x)) → Passed w bytes mask k' size' rest' v'
passed_more w bytes mask k k' i size size' x rest rest' v v' p n is s e h more =
    let xw : length x ≡ w = h ∙ p.sized in
    let all : drop (k * w) bytes ≡ x ++ rest' = sym p.left ∙ e in
    let next : k' * w ≡ k * w + w = ap (λ j. j * w) n ∙ omega (arith, add-mul k 1 w, one-mul w) in
    let here : word_of w bytes k ≡ number_from_digits 256 x = ap (λ xs. number_from_digits 256 (take w xs)) all ∙ ap (number_from_digits 256) (take_at x rest' w xw) in
    let long : length bytes - k * w ≡ w + length rest' = omega (arith, length-drop (k * w) bytes, ap length all, length-append x rest') in
    record {
      sized = s ∙ p.sized;
      within = omega (arith, p.within);
      left = sym (ap (λ j. drop j bytes) next ∙ sym (drop-drop w (k * w) bytes) ∙ ap (drop w) all ∙ drop_at x rest' w xw);
      xor = more
          ∙ ap₂ bit_xor p.xor (ap₂ (λ j. pick (has mask j)) is (sym here))
          ∙ sym (xor_over_more (word_of w bytes) k mask)
          ∙ ap (λ j. xor_over (word_of w bytes) j mask) (sym (n ∙ add-one k));
    }

-- after the last cell
pub passed_all : (w : ℕ) (bytes : List ℕ) (mask k size : ℕ) (rest : List ℕ) (v : ℕ) → Passed w bytes mask k size rest v → length rest < size → v ≡ xor_in w bytes mask
passed_all w bytes mask k size rest v p h =
    let long : length bytes ≡ k * w + length rest = omega (arith, p.within, length-drop (k * w) bytes, ap length p.left) in
    let all : length bytes / w ≡ k = ap (λ j. j / w) long ∙ div-mul-add k w (length rest) (omega (arith, p.sized)) in
    p.xor
    ∙ ap (λ j. xor_over (word_of w bytes) j mask) (sym all)
    ∙ xor_over_same (word_of w bytes) _ (length bytes / w) mask (λ c l. sym (get_or_cut w (length bytes / w) bytes c l))

-- what a cell in the set adds, and what another does
pub put_in : (v b x : ℕ) (t : Bool) → true ≡ t → x ≡ b → bit_xor v x ≡ bit_xor v (pick t b)
put_in v b x t h e = ap (λ y. bit_xor v y) e ∙ ap (λ s. bit_xor v (pick s b)) h

pub left_out : (v b : ℕ) (t : Bool) → false ≡ t → v ≡ bit_xor v (pick t b)
left_out v b t h = sym (xor_zero_r v) ∙ ap (λ s. bit_xor v (pick s b)) h
