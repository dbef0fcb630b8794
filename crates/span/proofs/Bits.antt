-- Laws of membership.
use Rattle.std.proofs.Common.{◌≡◌, ℕ, zero, suc, ◌+◌, ◌-◌, ◌/◌, ◌%◌, ◌^◌, ◌<◌, ◌≤◌, Bool, true, false, ◌&&◌, ◌⊎◌, bit_and, bit_xor, sym, refl, ap, ◌∙◌, subst, ap₂, inl, inr, true≢false, not-suc-le-zero, mod-lt, zero-lt-suc, pow-suc, div-one, arith, pow_pos, pow-add, shr-shr}
use Rattle.std.proofs.Math.Arith.{bin_ind}
use Rattle.std.proofs.Math.Decide.{ℕ_discrete as dec_eq, dec_lt}
use Rattle.std.proofs.Math.Nat.{zero-div, div_self, div-eq_of_lt, mul-mod_left}
use Rattle.std.proofs.Math.Pow.{pow-lt}
use Rattle.std.proofs.lemmas.Nat.{xor_shr, xor_mod, and_shr, and_mod, shl-shr}
use Rattle.span.specs.Sets.{is_one, has, differs, Lowest, Within}

-- two digits
digit_xor : (x y : ℕ) → x < 2 → y < 2 → is_one (bit_xor x y) ≡ differs (is_one x) (is_one y)
digit_xor zero zero hx hy = refl
digit_xor zero (suc y) hx hy = refl
digit_xor (suc zero) zero hx hy = refl
digit_xor (suc zero) (suc zero) hx hy = refl
digit_xor (suc zero) (suc (suc y)) hx hy = absurd (omega arith)
digit_xor (suc (suc x)) y hx hy = absurd (omega arith)

-- the symmetric difference of two sets holds what exactly one of them holds
pub has_xor : (a b c : ℕ) → has (bit_xor a b) c ≡ differs (has a c) (has b c)
unfolding has
has_xor a b c =
    ap (λ (x : ℕ). is_one (x % 2)) (xor_shr a b c)
    ∙ ap is_one (xor_mod (a / 2 ^ c) (b / 2 ^ c) 1)
    ∙ digit_xor (a / 2 ^ c % 2) (b / 2 ^ c % 2) (mod-lt (a / 2 ^ c) (zero-lt-suc 1)) (mod-lt (b / 2 ^ c) (zero-lt-suc 1))

-- two digits, both of them one
digit_and : (x y : ℕ) → x < 2 → y < 2 → is_one (bit_and x y) ≡ (is_one x && is_one y)
digit_and zero y hx hy = refl
digit_and (suc zero) zero hx hy = refl
digit_and (suc zero) (suc zero) hx hy = refl
digit_and (suc zero) (suc (suc y)) hx hy = absurd (omega arith)
digit_and (suc (suc x)) y hx hy = absurd (omega arith)

-- what both of two sets hold
pub has_and : (a b c : ℕ) → has (bit_and a b) c ≡ (has a c && has b c)
unfolding has
has_and a b c =
    ap (λ (x : ℕ). is_one (x % 2)) (and_shr a b c)
    ∙ ap is_one (and_mod (a / 2 ^ c) (b / 2 ^ c) 1)
    ∙ digit_and (a / 2 ^ c % 2) (b / 2 ^ c % 2) (mod-lt (a / 2 ^ c) (zero-lt-suc 1)) (mod-lt (b / 2 ^ c) (zero-lt-suc 1))

-- a number of k bits is a set below k
pub has_past : (m k c : ℕ) → m < 2 ^ k → k ≤ c → has m c ≡ false
unfolding has
has_past m k c h l = ap (λ (x : ℕ). is_one (x % 2)) (div-eq_of_lt (below (dec_eq k c)))
  where
    below : Dec (k ≡ c) → m < 2 ^ c
    below (yes e) = subst (λ (x : ℕ). m < 2 ^ x) e h
    below (no e) = let p : 2 ^ k < 2 ^ c = pow-lt (omega arith) in omega arith

-- a set with its lowest s places cut off
pub has_shifted : (m s c : ℕ) → has (m / 2 ^ s) c ≡ has m (s + c)
unfolding has
has_shifted m s c = ap (λ (x : ℕ). is_one (x % 2)) (shr-shr m s c)

-- a row that does not hold the cell leaves it as it is
pub has_xor_other : (a b c : ℕ) → has a c ≡ false → has (bit_xor a b) c ≡ has b c
has_xor_other a b c h = has_xor a b c ∙ ap (λ (x : Bool). differs x (has b c)) h

-- two sets that hold the cell clear it
pub has_xor_clear : (a b c : ℕ) → has a c ≡ true → has b c ≡ true → has (bit_xor a b) c ≡ false
has_xor_clear a b c h k = has_xor a b c ∙ ap₂ differs h k

-- the set with no cell
pub has_zero : (c : ℕ) → has 0 c ≡ false
unfolding has
has_zero c = ap (λ (x : ℕ). is_one (x % 2)) (zero-div (2 ^ c))

-- a set that holds a cell is not empty
pub has_not_zero : (m c : ℕ) → has m c ≡ true → ¬ (m ≡ 0)
has_not_zero m c h e = true≢false (sym h ∙ ap (λ (x : ℕ). has x c) e ∙ has_zero c)

-- a set has one lowest cell
pub lowest_one : (m c d : ℕ) → Lowest m c → Lowest m d → c ≡ d
lowest_one m c d (hc, lc) (hd, ld) = go (dec_lt c d) (dec_lt d c)
  where
    go : Dec (c < d) → Dec (d < c) → c ≡ d
    go (yes p) q = absurd (true≢false (sym hc ∙ ld c p))
    go (no p) (yes q) = absurd (true≢false (sym hd ∙ lc d q))
    go (no p) (no q) = omega arith

-- a row with the lowest cell p, added to a set, leaves the cells below p as they are
pub lowest_below : (a b p c : ℕ) → Lowest a p → c < p → has (bit_xor a b) c ≡ has b c
lowest_below a b p c l h = has_xor_other a b c (l.1 c h)

-- the higher cells of a set are the cells of its half
pub has_half : (m c : ℕ) → has m (suc c) ≡ has (m / 2) c
unfolding has
has_half m c =
    let one_more : suc c ≡ 1 + c = omega arith in
    ap (λ (k : ℕ). is_one (m / 2 ^ k % 2)) one_more ∙ ap (λ (x : ℕ). is_one (x % 2)) (sym (shr-shr m 1 c))

-- the lowest cell is the lowest digit
pub has_first : (m : ℕ) → has m 0 ≡ is_one (m % 2)
unfolding has
has_first m = ap (λ (x : ℕ). is_one (x % 2)) (div-one m)

-- a digit that is no one is zero
not_one : (d : ℕ) → is_one d ≡ false → d ≡ 0
not_one zero e = refl
not_one (suc d) e = absurd (true≢false e)

-- a set with no cells is empty
pub no_cells : (m : ℕ) → ((c : ℕ) → has m c ≡ false) → m ≡ 0
no_cells =
    bin_ind (λ (m : ℕ). ((c : ℕ) → has m c ≡ false) → m ≡ 0) (λ h. refl)
    (λ m ih h.
    let half : m / 2 ≡ 0 = ih (λ c. sym (has_half m c) ∙ h (suc c)) in
    let digit : m % 2 ≡ 0 = not_one (m % 2) (sym (has_first m) ∙ h 0) in
    omega arith)

-- the lowest cell below k, or none below k
pub find_lowest : (m k : ℕ) → ((p : ℕ) × Lowest m p) ⊎ ((c : ℕ) → c < k → has m c ≡ false)
find_lowest m zero = inr (λ c h. absurd (not-suc-le-zero h))
find_lowest m (suc k) = go (find_lowest m k) (has m k) refl
  where
    more : ((c : ℕ) → c < k → has m c ≡ false) → has m k ≡ false → (c : ℕ) → c < suc k → Dec (c ≡ k) → has m c ≡ false
    more none e c h (yes p) = ap (has m) p ∙ e
    more none e c h (no p) = none c (omega arith)

    go : ((p : ℕ) × Lowest m p) ⊎ ((c : ℕ) → c < k → has m c ≡ false) → (t : Bool) → has m k ≡ t
        → ((p : ℕ) × Lowest m p) ⊎ ((c : ℕ) → c < suc k → has m c ≡ false)
    go (inl l) t e = inl l
    go (inr none) true e = inl (k, (e, none))
    go (inr none) false e = inr (λ c h. more none e c h (dec_eq c k))

-- a set within n is empty or has a lowest cell
pub empty_or_lowest : (n m : ℕ) → Within n m → (m ≡ 0) ⊎ ((p : ℕ) × Lowest m p)
empty_or_lowest n m within = go (find_lowest m n)
  where
    all : ((c : ℕ) → c < n → has m c ≡ false) → (c : ℕ) → Dec (c < n) → has m c ≡ false
    all none c (yes h) = none c h
    all none c (no h) = within c (omega arith)

    go : ((p : ℕ) × Lowest m p) ⊎ ((c : ℕ) → c < n → has m c ≡ false) → (m ≡ 0) ⊎ ((p : ℕ) × Lowest m p)
    go (inl l) = inr l
    go (inr none) = inl (no_cells m (λ c. all none c (dec_lt c n)))

-- the set of one cell holds it
pub has_pow : (k : ℕ) → has (2 ^ k) k ≡ true
unfolding has
has_pow k = ap (λ (x : ℕ). is_one (x % 2)) (div_self (pow_pos k))

-- and no higher one
has_pow_higher : (k c : ℕ) → k < c → has (2 ^ k) c ≡ false
unfolding has
has_pow_higher k c h = ap (λ (x : ℕ). is_one (x % 2)) (div-eq_of_lt (pow-lt h))

-- and no lower one
has_pow_lower : (k c : ℕ) → has (2 ^ (suc k + c)) c ≡ false
unfolding has
has_pow_lower k c =
    ap (λ (x : ℕ). is_one (x / 2 ^ c % 2)) (pow-add 2 (suc k) c)
    ∙ ap (λ (x : ℕ). is_one (x % 2)) (shl-shr (2 ^ suc k) c)
    ∙ ap (λ (x : ℕ). is_one (x % 2)) (pow-suc 2 k)
    ∙ ap is_one (mul-mod_left (2 ^ k) 2)

-- no other cell
pub has_pow_other : (k c : ℕ) → ¬ (c ≡ k) → has (2 ^ k) c ≡ false
has_pow_other k c h = go (dec_lt k c)
  where
    go : Dec (k < c) → has (2 ^ k) c ≡ false
    go (yes l) = has_pow_higher k c l
    go (no l) =
        let e : suc (k - suc c) + c ≡ k = omega arith in
        subst (λ (x : ℕ). has (2 ^ x) c ≡ false) e (has_pow_lower (k - suc c) c)
