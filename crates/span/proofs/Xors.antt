-- Laws of the XOR of words over a set of cells.
use Rattle.std.proofs.Common.{◌≡◌, ℕ, zero, suc, ◌^◌, ◌<◌, Bool, true, false, bit_xor, sym, refl, ap, ◌∙◌, ap₂, not-suc-le-zero, arith, pow_pos}
use Rattle.std.proofs.Math.Decide.{ℕ_discrete as dec_eq}
use Rattle.std.proofs.lemmas.Nat.{xor_comm, xor_lt}
use Rattle.std.specs.Int.Bits.{xor_zero_r, xor_self, xor_assoc}
use Rattle.span.specs.Sets.{has, differs}
use Rattle.span.specs.Kinds.{numbers}
use Rattle.span.specs.Fillings.{pick, xor_over, Below}
use Rattle.span.proofs.Bits.{has_xor, has_zero, has_pow, has_pow_other}
use Rattle.span.proofs.Comb.{left_comm}

-- the middle two of four change places
interchange : (a b c d : ℕ) → bit_xor (bit_xor a b) (bit_xor c d) ≡ bit_xor (bit_xor a c) (bit_xor b d)
interchange a b c d = xor_assoc a b (bit_xor c d) ∙ ap (bit_xor a) (left_comm numbers b c d) ∙ sym (xor_assoc a c (bit_xor b d))

-- a word picked where exactly one of two tests is true
pick_differs : (p q : Bool) (w : ℕ) → pick (differs p q) w ≡ bit_xor (pick p w) (pick q w)
pick_differs true true w = sym (xor_self w)
pick_differs true false w = sym (xor_zero_r w)
pick_differs false q w = refl

-- a word that is picked or not has no more bits
pick_lt : (p : Bool) (x w : ℕ) → x < 2 ^ w → pick p x < 2 ^ w
pick_lt true x w h = h
pick_lt false x w h = pow_pos w

-- linear in the set
pub xor_over_xor : (f : ℕ → ℕ) (n a b : ℕ) → xor_over f n (bit_xor a b) ≡ bit_xor (xor_over f n a) (xor_over f n b)
unfolding xor_over
xor_over_xor f zero a b = refl
xor_over_xor f (suc k) a b =
    ap₂ bit_xor (ap (λ (p : Bool). pick p (f k)) (has_xor a b k) ∙ pick_differs (has a k) (has b k) (f k)) (xor_over_xor f k a b)
    ∙ interchange (pick (has a k) (f k)) (pick (has b k) (f k)) (xor_over f k a) (xor_over f k b)

-- no cell
pub xor_over_none : (f : ℕ → ℕ) (m : ℕ) → xor_over f 0 m ≡ 0
unfolding xor_over
xor_over_none f m = refl

-- one cell more
pub xor_over_more : (f : ℕ → ℕ) (k m : ℕ) → xor_over f (suc k) m ≡ bit_xor (xor_over f k m) (pick (has m k) (f k))
unfolding xor_over
xor_over_more f k m = xor_comm (pick (has m k) (f k)) (xor_over f k m)

-- it goes by the words in the set's cells alone
pub xor_over_among : (f g : ℕ → ℕ) (n m : ℕ) → ((c : ℕ) → c < n → has m c ≡ true → f c ≡ g c) → xor_over f n m ≡ xor_over g n m
unfolding xor_over
xor_over_among f g zero m h = refl
xor_over_among f g (suc k) m h = ap₂ bit_xor (go (has m k) (h k (omega arith))) (xor_over_among f g k m (λ c l. h c (omega arith)))
  where
    go : (p : Bool) → (p ≡ true → f k ≡ g k) → pick p (f k) ≡ pick p (g k)
    go true e = e refl
    go false e = refl

-- it goes by the words below n alone
pub xor_over_same : (f g : ℕ → ℕ) (n m : ℕ) → ((c : ℕ) → c < n → f c ≡ g c) → xor_over f n m ≡ xor_over g n m
xor_over_same f g n m h = xor_over_among f g n m (λ c l t. h c l)

-- words of w bits give a word of w bits
pub xor_over_lt : (w : ℕ) (f : ℕ → ℕ) (n m : ℕ) → Below w f → xor_over f n m < 2 ^ w
unfolding xor_over
xor_over_lt w f zero m h = pow_pos w
xor_over_lt w f (suc k) m h = xor_lt w (pick (has m k) (f k)) (xor_over f k m) (pick_lt (has m k) (f k) w (h k)) (xor_over_lt w f k m h)

-- over a set with no cell below n it is zero
pub xor_over_outside : (f : ℕ → ℕ) (n m : ℕ) → ((c : ℕ) → c < n → has m c ≡ false) → xor_over f n m ≡ 0
unfolding xor_over
xor_over_outside f zero m none = refl
xor_over_outside f (suc k) m none =
    ap₂ (λ (b : Bool) (x : ℕ). bit_xor (pick b (f k)) x) (none k (omega arith)) (xor_over_outside f k m (λ c l. none c (omega arith)))

-- over the empty set too
pub xor_over_empty : (f : ℕ → ℕ) (n : ℕ) → xor_over f n 0 ≡ 0
xor_over_empty f n = xor_over_outside f n 0 (λ c l. has_zero c)

-- over the set of one cell it is the word in that cell
pub xor_over_pow : (f : ℕ → ℕ) (n c : ℕ) → c < n → xor_over f n (2 ^ c) ≡ f c
unfolding xor_over
xor_over_pow f zero c h = absurd (not-suc-le-zero h)
xor_over_pow f (suc k) c h = go (dec_eq c k) (xor_over_pow f k c)
  where
    rest : c ≡ k → xor_over f k (2 ^ c) ≡ 0
    rest e = xor_over_outside f k (2 ^ c) (λ d l. has_pow_other c d (λ q. absurd (omega arith)))

    go : Dec (c ≡ k) → (c < k → xor_over f k (2 ^ c) ≡ f c) → bit_xor (pick (has (2 ^ c) k) (f k)) (xor_over f k (2 ^ c)) ≡ f c
    go (yes e) ih =
        ap₂ (λ (b : Bool) (x : ℕ). bit_xor (pick b (f k)) x) (ap (has (2 ^ c)) (sym e) ∙ has_pow c) (rest e) ∙ xor_zero_r (f k) ∙ ap f (sym e)
    go (no e) ih = ap (λ (b : Bool). bit_xor (pick b (f k)) (xor_over f k (2 ^ c))) (has_pow_other c k (λ q. e (sym q))) ∙ ih (omega arith)
