-- The number that words stand for: membership and XOR go word by word, for any number of words.
use Rattle.std.proofs.Common.{◌≡◌, ℕ, zero, suc, ◌+◌, ◌-◌, ◌*◌, ◌/◌, ◌%◌, ◌^◌, ◌<◌, ◌≤◌, Bool, true, false, cond, eqb, List, [], ◌∷◌, length, get_or, set, bit_xor, sym, refl, ap, ◌∙◌, subst, ap₂, inl, inr, true≢false, MatchBool, zero-le, add-zero, mod-lt, zero-lt-suc, zero-add, arith, pow_pos, pow-add, shr-shr}
use Rattle.std.proofs.ByRecursion.{All-from_get_or}
use Rattle.std.proofs.Math.Pow.{field, mod-mod-pow, low, high, pow-lt}
use Rattle.std.proofs.lemmas.Bool.{cases_lt, cases_eq, lt-ltb}
use Rattle.std.proofs.lemmas.List.{get_or_past}
use Rattle.std.proofs.lemmas.Nat.{xor_block, one_shl}
use Rattle.std.specs.Int.Bits.{xor_zero_r}
use Rattle.std.specs.Int.Count.{count_trailing_zeros, under}
use Rattle.std.specs.List.{AllByRecursion as All, AllWithin, HoldsAt}
use Rattle.std.specs.Array.{IsFromFnResultFrom, IsFromFnResult}
use Rattle.std.specs.Fn.{Called}
use denote.Param.Members.{Mut}
use Rattle.span.specs.Sets.{is_one, has, differs, Lowest}
use Rattle.span.proofs.Bits.{has_xor, has_zero, has_half, has_first, has_pow, has_pow_other}
use Rattle.gf2.specs.Masks.{Fit, value, width, toggled_in, PutIn}

-- each word has 64 bits
abbrev pub Small : List ℕ → Type 0
Small = All (λ w. w < 2 ^ 64)

pub small : (ws : List ℕ) → Fit ws → Small ws
small ws fits = All-from_get_or (λ w. w < 2 ^ 64) ws 0 (λ i _. fits i)

-- ---- membership

-- a member of the low word
has_low : (v w c : ℕ) → w < 2 ^ 64 → c < 64 → has (v * 2 ^ 64 + w) c ≡ has w c
unfolding has
has_low v w c hw hc =
    let n : ℕ = v * 2 ^ 64 + w in
    let k : ℕ = 1 + c in
    let e : (63 - c) + k ≡ 64 = omega arith in
    let m1 : n % 2 ^ ((63 - c) + k) % 2 ^ k ≡ n % 2 ^ k = mod-mod-pow n (63 - c) k in
    let m2 : n % 2 ^ ((63 - c) + k) ≡ w = ap (λ (x : ℕ). n % 2 ^ x) e ∙ low v 64 hw in
    let m3 : n % 2 ^ k ≡ w % 2 ^ k = sym m1 ∙ ap (λ (x : ℕ). x % 2 ^ k) m2 in
    ap is_one (sym (field n 1 c) ∙ ap (λ (x : ℕ). x / 2 ^ c) m3 ∙ field w 1 c)

-- a member of the words above it
has_high : (v w c : ℕ) → w < 2 ^ 64 → 64 ≤ c → has (v * 2 ^ 64 + w) c ≡ has v (c - 64)
unfolding has
has_high v w c hw hc =
    let n : ℕ = v * 2 ^ 64 + w in
    let e : 64 + (c - 64) ≡ c = omega arith in
    let s : n / 2 ^ 64 / 2 ^ (c - 64) ≡ n / 2 ^ c = shr-shr n 64 (c - 64) ∙ ap (λ (x : ℕ). n / 2 ^ x) e in
    ap (λ (x : ℕ). is_one (x % 2)) (sym s ∙ ap (λ (x : ℕ). x / 2 ^ (c - 64)) (high v 64 hw))

pub has_words : (ws : List ℕ) → Small ws → (c : ℕ) → has (value ws) c ≡ has (get_or ws (c / 64) 0) (c % 64)
unfolding value
has_words [] s c = has_zero c ∙ sym (has_zero (c % 64))
has_words (w ∷ ws) s c = elim (cases_lt c 64) [
  | inl h ↦
      let q : c / 64 ≡ 0 = omega arith in
      let r : c % 64 ≡ c = omega arith in
      rw (q, r) (has_low (value ws) w c s.0 h)
  | inr h ↦
      let q : c / 64 ≡ suc ((c - 64) / 64) = omega arith in
      let r : c % 64 ≡ (c - 64) % 64 = omega arith in
      rw (q, r) (has_high (value ws) w c s.0 h ∙ has_words ws s.1 (c - 64))
]

-- a bit, as the code tests it
digit_one : (d : ℕ) → d < 2 → eqb d 1 ≡ is_one d
digit_one zero h = refl
digit_one (suc zero) h = refl
digit_one (suc (suc d)) h = absurd (omega arith)

pub tested : (ws : List ℕ) (c : ℕ) → Fit ws → eqb (get_or ws (c / 64) 0 / 2 ^ (c % 64) % 2) 1 ≡ has (value ws) c
unfolding has
tested ws c fits =
    let d = get_or ws (c / 64) 0 / 2 ^ (c % 64) in
    digit_one (d % 2) (mod-lt d (zero-lt-suc 1)) ∙ sym (has_words ws (small ws fits) c)

pub past : (ws : List ℕ) (c : ℕ) → Fit ws → length ws ≤ c / 64 → false ≡ has (value ws) c
past ws c fits h =
    sym (has_words ws (small ws fits) c ∙ ap (λ (x : ℕ). has x (c % 64)) (get_or_past ws (c / 64) 0 h) ∙ has_zero (c % 64))

-- a cell that is in the set is below its width
pub inside : (ws : List ℕ) (c : ℕ) → Fit ws → 64 * length ws ≡ width → true ≡ has (value ws) c → c < width
inside ws c fits w t = elim (cases_lt (c / 64) (length ws)) [
  | inl h ↦ omega arith
  | inr h ↦ absurd (true≢false (t ∙ sym (past ws c fits h)))
]

-- ---- one cell toggled

flip : (ws : List ℕ) (c : ℕ) → Small ws → c / 64 < length ws
    → value (set ws (c / 64) (bit_xor (get_or ws (c / 64) 0) (2 ^ (c % 64)))) ≡ bit_xor (value ws) (2 ^ c)
unfolding value
flip [] c s h = absurd (omega arith)
flip (w ∷ ws) c s h = elim (cases_lt c 64) [
  | inl lt ↦
      let q : c / 64 ≡ 0 = omega arith in
      let r : c % 64 ≡ c = omega arith in
      let p : 2 ^ c < 2 ^ 64 = pow-lt lt in
      rw (q, r) (ap (λ (x : ℕ). x * 2 ^ 64 + bit_xor w (2 ^ c)) (sym (xor_zero_r (value ws)))
      ∙ sym (xor_block 64 (value ws) 0 w (2 ^ c) s.0 p) ∙ ap (bit_xor (value ws * 2 ^ 64 + w)) (zero-add (2 ^ c)))
  | inr ge ↦
      let d : ℕ = c - 64 in
      let q : c / 64 ≡ suc (d / 64) = omega arith in
      let r : c % 64 ≡ d % 64 = omega arith in
      let e : d + 64 ≡ c = omega arith in
      let hh : d / 64 < length ws = omega arith in
      let p : 2 ^ d * 2 ^ 64 + 0 ≡ 2 ^ c = add-zero (2 ^ d * 2 ^ 64) ∙ sym (pow-add 2 d 64) ∙ ap (λ (x : ℕ). 2 ^ x) e in
      rw (q, r) (ap (λ (x : ℕ). x * 2 ^ 64 + w) (flip ws d s.1 hh)
      ∙ ap (λ (x : ℕ). bit_xor (value ws) (2 ^ d) * 2 ^ 64 + x) (sym (xor_zero_r w))
      ∙ sym (xor_block 64 (value ws) (2 ^ d) w 0 s.0 (pow_pos 64)) ∙ ap (bit_xor (value ws * 2 ^ 64 + w)) p)
]

pub toggle_in : (ws : List ℕ) (c : ℕ) → Fit ws → c / 64 < length ws
    → value (set ws (c / 64) (bit_xor (get_or ws (c / 64) 0) ((1 * 2 ^ (c % 64)) % 2 ^ 64))) ≡ toggled_in (64 * length ws) (value ws) c
toggle_in ws c fits h =
    let l : c % 64 < 64 = omega arith in
    let within : c < 64 * length ws = omega arith in
    ap (λ (b : ℕ). value (set ws (c / 64) (bit_xor (get_or ws (c / 64) 0) b))) (one_shl (c % 64) 64 l)
    ∙ flip ws c (small ws fits) h
    ∙ sym (ap (λ (t : Bool). cond t (bit_xor (value ws) (2 ^ c)) (value ws)) (lt-ltb c (64 * length ws) within))

-- a cell below the width is turned over
pub toggled_is : (m c : ℕ) → c < width → toggled_in width m c ≡ bit_xor m (2 ^ c)
toggled_is m c h = ap (λ (t : Bool). cond t (bit_xor m (2 ^ c)) m) (lt-ltb c width h)

-- a cell that was not in the set is put in by toggling it
pub toggled_in_lem : (m c r : ℕ) → c < width → false ≡ has m c → r ≡ toggled_in width m c → PutIn m c r
toggled_in_lem m c r h out is = record {
  here = ap (λ (x : ℕ). has x c) flipped ∙ has_xor m (2 ^ c) c ∙ ap₂ differs (sym out) (has_pow c);
  elsewhere = λ d ne. ap (λ (x : ℕ). has x d) flipped ∙ has_xor m (2 ^ c) d ∙ ap (differs (has m d)) (has_pow_other c d ne) ∙ differs_none (has m d);
}
  where
    flipped : r ≡ bit_xor m (2 ^ c)
    flipped = is ∙ toggled_is m c h

    differs_none : (b : Bool) → differs b false ≡ b
    differs_none true = refl
    differs_none false = refl

-- ---- the lowest cell

low_bits : (n t : ℕ) → ((j : ℕ) → j < t → has (n / 2) j ≡ false) → n % 2 ≡ 0 → (j : ℕ) → j < suc t → has n j ≡ false
low_bits n t b e zero l = has_first n ∙ ap is_one e
low_bits n t b e (suc j) l = has_half n j ∙ b j (omega arith)

trail_step : (k n : ℕ) → n < 2 ^ suc k → 0 < n → (d : ℕ) → n % 2 ≡ d
    → (n / 2 < 2 ^ k → 0 < n / 2 → (count_trailing_zeros k (n / 2) < k) × Lowest (n / 2) (count_trailing_zeros k (n / 2)))
    → (under d (count_trailing_zeros k (n / 2)) < suc k) × Lowest n (under d (count_trailing_zeros k (n / 2)))
trail_step k n h p zero e rest =
    let w : 2 ^ suc k ≡ 2 ^ k * 2 = pow_more k in
    let ih = rest (omega arith) (omega arith) in
    (omega (arith, ih.0), (has_half n _ ∙ ih.1.0, low_bits n (count_trailing_zeros k (n / 2)) ih.1.1 e))
  where
    pow_more : (k : ℕ) → 2 ^ suc k ≡ 2 ^ k * 2
    pow_more k = ap (λ (x : ℕ). 2 ^ x) (let q : suc k ≡ k + 1 = omega arith in q) ∙ pow-add 2 k 1
trail_step k n h p (suc d) e rest = (omega arith, (has_first n ∙ ap is_one e, λ j l. absurd (omega arith)))

-- what `trailing_zeros` tells of a word that is not 0
pub trail : (k n : ℕ) → n < 2 ^ k → 0 < n → (count_trailing_zeros k n < k) × Lowest n (count_trailing_zeros k n)
unfolding count_trailing_zeros
trail zero n h p = absurd (omega arith)
trail (suc k) n h p = trail_step k n h p (n % 2) refl (trail k (n / 2))

-- the lowest bit of the first word that is not 0
pub lowest_word : (ws : List ℕ) → Fit ws → (i : ℕ) → ((k : ℕ) → k < i → get_or ws k 0 ≡ 0) → 0 < get_or ws i 0
    → (c : ℕ) → c ≡ 64 * i + count_trailing_zeros 64 (get_or ws i 0) → Lowest (value ws) c
lowest_word ws fits i none pos c e =
    let w : ℕ = get_or ws i 0 in
    let tr = trail 64 w (fits i) pos in
    let t : ℕ = count_trailing_zeros 64 w in
    let tl : t < 64 = tr.0 in
    let q : c / 64 ≡ i = omega arith in
    let r : c % 64 ≡ t = omega arith in
    let s = small ws fits in (
      has_words ws s c ∙ rw (q, r) tr.1.0,
      λ k l. has_words ws s k ∙ elim (cases_lt (k / 64) i) [
        | inl lt ↦ ap (λ (x : ℕ). has x (k % 64)) (none (k / 64) lt) ∙ has_zero (k % 64)
        | inr ge ↦
            let q' : k / 64 ≡ i = omega arith in
            let r' : k % 64 < t = omega arith in
            rw q' (tr.1.1 (k % 64) r')
      ],
    )

pub no_words : (ws : List ℕ) → ((k : ℕ) → k < length ws → get_or ws k 0 ≡ 0) → value ws ≡ 0
unfolding value
no_words [] z = refl
no_words (w ∷ ws) z =
    let first : w ≡ 0 = z 0 (omega arith) in
    let rest : value ws ≡ 0 = no_words ws (λ k h. z (suc k) (omega arith)) in
    omega arith

-- words that stand for 0 are 0
pub words_zero : (ws : List ℕ) → value ws ≡ 0 → (i : ℕ) → get_or ws i 0 ≡ 0
unfolding value
words_zero [] z i = refl
words_zero (w ∷ ws) z zero = omega arith
words_zero (w ∷ ws) z (suc i) = words_zero ws (omega arith) i

-- what the test of each word says of the number
pub zero_words : (ws : List ℕ) (r : Bool) → MatchBool r (AllWithin (λ x. x ≡ 0) ws 0 (length ws)) ((k : ℕ) × (k < length ws) × HoldsAt (λ x. 0 < x) ws k)
    → (r ≡ true → value ws ≡ 0) × (value ws ≡ 0 → r ≡ true)
zero_words ws true all = (λ _. no_words ws (λ k h. all k 0 zero-le h), λ _. refl)
zero_words ws false (k, h, one) = (λ e. absurd (true≢false (sym e)), λ z. absurd (omega (arith, one 0, words_zero ws z k)))

-- ---- the symmetric difference

-- what a closure that answers h made, from the i-th place on
made_from : {F : Type 0} (g : Mut F (ℕ × Unit {0}) ℕ) (f : F) (h : ℕ → ℕ) → ((i y : ℕ) (q : F) → Called g f (i, tt) y q → (q ≡ f) × (y ≡ h i))
    → (ys : List ℕ) (i n : ℕ) → IsFromFnResultFrom g f ys i n → (k : ℕ) → i ≤ k → k < i + n → get_or ys k 0 ≡ h k
made_from g f h gives ys i zero made k low high = absurd (omega arith)
made_from {F} g f h gives ys i (suc n) (q, y, here, call, rest) k low high = elim (cases_eq i k) [
  | inl e ↦ subst (λ (j : ℕ). get_or ys j 0 ≡ h j) e (here.1 0 ∙ (gives i y q call).1)
  | inr ne ↦ made_from g f h gives ys (i + 1) n (subst (λ (p : F). IsFromFnResultFrom g p ys (i + 1) n) (gives i y q call).0 rest) k (omega arith) (omega arith)
]

-- what `from_fn` makes of it
pub made_by : {F : Type 0} {g : Mut F (ℕ × Unit {0}) ℕ} {f : F} {ys : List ℕ} {n : ℕ} (h : ℕ → ℕ) → IsFromFnResult g f ys n
    → ((i y : ℕ) (q : F) → Called g f (i, tt) y q → (q ≡ f) × (y ≡ h i)) → (k : ℕ) → k < n → get_or ys k 0 ≡ h k
made_by {g = g} {f = f} {ys = ys} {n = n} h made gives k l = made_from g f h gives ys 0 n made.each k zero-le (omega arith)

pub xor_words : (xs ys zs : List ℕ) → Fit xs → Fit ys → length ys ≡ length xs → length zs ≡ length xs
    → ((i : ℕ) → i < length xs → get_or zs i 0 ≡ bit_xor (get_or xs i 0) (get_or ys i 0)) → value zs ≡ bit_xor (value xs) (value ys)
unfolding value
xor_words [] [] [] fx fy ly lz same = refl
xor_words [] [] (z ∷ zs) fx fy ly lz same = absurd (omega arith)
xor_words [] (y ∷ ys) zs fx fy ly lz same = absurd (omega arith)
xor_words (x ∷ xs) [] zs fx fy ly lz same = absurd (omega arith)
xor_words (x ∷ xs) (y ∷ ys) [] fx fy ly lz same = absurd (omega arith)
xor_words (x ∷ xs) (y ∷ ys) (z ∷ zs) fx fy ly lz same =
    let rest : value zs ≡ bit_xor (value xs) (value ys) =
    xor_words xs ys zs (λ i. fx (suc i)) (λ i. fy (suc i)) (omega arith) (omega arith) (λ i h. same (suc i) (omega arith)) in
    ap₂ (λ (v w : ℕ). v * 2 ^ 64 + w) rest (same 0 (omega arith)) ∙ sym (xor_block 64 (value xs) (value ys) x y (fx 0) (fy 0))
