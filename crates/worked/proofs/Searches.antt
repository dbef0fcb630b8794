-- Tests that go through lists, through the numbers below a bound and through the sums of a list, and what they say.
use Rattle.std.proofs.Common.{◌≡◌, ℕ, zero, suc, ◌<◌, Bool, true, false, ◌&&◌, ◌||◌, ◌⊎◌, List, [], ◌∷◌, sym, refl, ap, ◌∙◌, subst, inl, inr, not-suc-le-zero, arith, bit_xor}
use Rattle.std.proofs.Math.Decide.{ℕ_discrete as dec_eq}
use Rattle.std.proofs.lemmas.Bool.{false≢true, and_parts, and_from, or_cases, or_parts}
use Rattle.span.specs.Kinds.{numbers, Comb, Member}
use Rattle.span.proofs.Comb.{cancel}

-- each entry of a list passes
abbrev pub every : {X : Type 0} → (X → Bool) → List X → Bool
every f [] = true
every f (x ∷ xs) = f x && every f xs

pub each : {X : Type 0} (f : X → Bool) (xs : List X) → every f xs ≡ true → (x : X) → Member x xs → f x ≡ true
each f [] t x m = elim m [ ]
each f (y ∷ xs) t x (inl p) = ap f p ∙ (and_parts _ _ t).0
each f (y ∷ xs) t x (inr m) = each f xs (and_parts _ _ t).1 x m

-- each number below n passes
abbrev pub all_below : ℕ → (ℕ → Bool) → Bool
all_below zero f = true
all_below (suc n) f = f n && all_below n f

pub below : (n : ℕ) (f : ℕ → Bool) → all_below n f ≡ true → (c : ℕ) → c < n → f c ≡ true
below zero f t c h = absurd (not-suc-le-zero h)
below (suc n) f t c h = let p = and_parts _ _ t in go (dec_eq c n) p.0 (below n f p.1 c)
  where
    go : Dec (c ≡ n) → f n ≡ true → (c < n → f c ≡ true) → f c ≡ true
    go (yes e) here rest = ap f e ∙ here
    go (no e) here rest = rest (omega arith)

pub from_below : (n : ℕ) (f : ℕ → Bool) → ((c : ℕ) → c < n → f c ≡ true) → all_below n f ≡ true
from_below zero f h = refl
from_below (suc n) f h = and_from _ _ (h n (omega arith)) (from_below n f (λ c l. h c (omega arith)))

-- some number below n passes
abbrev pub some_below : ℕ → (ℕ → Bool) → Bool
some_below zero f = false
some_below (suc n) f = f n || some_below n f

pub found : (n : ℕ) (f : ℕ → Bool) → some_below n f ≡ true → (c : ℕ) × (f c ≡ true)
found zero f t = absurd (false≢true t)
found (suc n) f t = go (or_cases _ _ t) (found n f)
  where
    go : (f n ≡ true) ⊎ (some_below n f ≡ true) → (some_below n f ≡ true → (c : ℕ) × (f c ≡ true)) → (c : ℕ) × (f c ≡ true)
    go (inl here) rest = (n, here)
    go (inr lower) rest = rest lower

-- some sum of the list's entries passes
abbrev pub some_sum : (ℕ → Bool) → List ℕ → Bool
some_sum f [] = f 0
some_sum f (m ∷ M) = some_sum f M || some_sum (λ v. f (bit_xor m v)) M

pub sum_found : (f : ℕ → Bool) (M : List ℕ) → some_sum f M ≡ true → (v : ℕ) × Comb numbers M v × (f v ≡ true)
sum_found f [] t = (0, refl, t)
sum_found f (m ∷ M) t = go (or_cases _ _ t) (sum_found f M) (sum_found (λ v. f (bit_xor m v)) M)
  where
    Found : (ℕ → Bool) → Type 0
    Found g = some_sum g M ≡ true → (v : ℕ) × Comb numbers M v × (g v ≡ true)

    go : (some_sum f M ≡ true) ⊎ (some_sum (λ v. f (bit_xor m v)) M ≡ true) → Found f → Found (λ v. f (bit_xor m v))
        → (v : ℕ) × Comb numbers (m ∷ M) v × (f v ≡ true)
    go (inl s) without with_it = let r = without s in (r.0, inl r.1, r.2)
    go (inr s) without with_it =
        let r = with_it s in (bit_xor m r.0, inr (subst (Comb numbers M) (sym (cancel numbers m r.0)) r.1), r.2)

pub no_sum : (f : ℕ → Bool) (M : List ℕ) → some_sum f M ≡ false → (v : ℕ) → Comb numbers M v → f v ≡ false
no_sum f [] t v c = ap f c ∙ t
no_sum f (m ∷ M) t v (inl c) = no_sum f M (or_parts _ _ t).0 v c
no_sum f (m ∷ M) t v (inr c) =
    ap f (sym (cancel numbers m v))
    ∙ no_sum (λ v. f (bit_xor m v)) M (or_parts _ _ t).1 (bit_xor m v) c
