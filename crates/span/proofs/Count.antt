-- How many cells are bound.
use Rattle.std.proofs.Common.{◌≡◌, ℕ, zero, suc, ◌<◌, ◌≤◌, Bool, true, false, ◌↔◌, List, length, sym, refl, ap, ◌∙◌, ap₂, inl, inr, true≢false, zero-le, not-suc-le-zero, arith}
use Rattle.std.proofs.Math.Decide.{ℕ_discrete as dec_eq}
use Rattle.span.specs.Echelon.{Row, State, put, rows_of, Put}
use Rattle.span.specs.Held.{BoundBy, CountBound}

-- one more, or not
one_if : Bool → ℕ → ℕ
one_if true k = suc k
one_if false k = k

-- the length of a list with an entry put in front of it, or not
length_put : {V : Type 0} (b : Bool) (v : V) (l : List V) → length (put b v l) ≡ one_if b (length l)
unfolding one_if
length_put true v l = refl
length_put false v l = refl

-- there are at most as many bound cells as cells
pub count_le : {A : Type 0} (S : State A) (n : ℕ) → length (rows_of S n) ≤ n
count_le S zero = zero-le
count_le S (suc k) = go (S.bound k) (count_le S k)
  where
    go : (b : Bool) → length (rows_of S k) ≤ k → length (put b (S.row k) (rows_of S k)) ≤ suc k
    go true h = omega arith
    go false h = omega arith

-- states with the same bound cells have as many
pub count_same : {A : Type 0} (S T : State A) (n : ℕ) → ((c : ℕ) → c < n → T.bound c ≡ S.bound c) → length (rows_of T n) ≡ length (rows_of S n)
count_same S T zero h = refl
count_same S T (suc k) h =
    length_put (T.bound k) (T.row k) (rows_of T k)
    ∙ ap₂ one_if (h k (omega arith)) (count_same S T k (λ c l. h c (omega arith)))
    ∙ sym (length_put (S.bound k) (S.row k) (rows_of S k))

-- no bound cell, none counted
pub count_none : {A : Type 0} (S : State A) (n : ℕ) → ((c : ℕ) → c < n → S.bound c ≡ false) → length (rows_of S n) ≡ 0
unfolding one_if
count_none S zero h = refl
count_none S (suc k) h =
    length_put (S.bound k) (S.row k) (rows_of S k) ∙ ap₂ one_if (h k (omega arith)) (count_none S k (λ c l. h c (omega arith)))

-- a row put at a free cell makes one more bound cell
pub count_put : {A : Type 0} (S T : State A) (p : ℕ) (v : Row A) → Put S p v T → S.bound p ≡ false → (n : ℕ) → p < n → length (rows_of T n) ≡ suc (length (rows_of S n))
unfolding one_if
count_put S T p v into free zero h = absurd (not-suc-le-zero h)
count_put S T p v into free (suc k) h =
    length_put (T.bound k) (T.row k) (rows_of T k) ∙ go (dec_eq k p) (count_put S T p v into free k) ∙ ap suc (sym (length_put (S.bound k) (S.row k) (rows_of S k)))
  where
    same : (k ≡ p) → (c : ℕ) → c < k → T.bound c ≡ S.bound c
    same e c l = (into.2 c (λ q. absurd (omega arith))).0

    suc_if : (b : Bool) (j : ℕ) → one_if b (suc j) ≡ suc (one_if b j)
    suc_if true j = refl
    suc_if false j = refl

    go : Dec (k ≡ p) → (p < k → length (rows_of T k) ≡ suc (length (rows_of S k))) → one_if (T.bound k) (length (rows_of T k)) ≡ suc (one_if (S.bound k) (length (rows_of S k)))
    go (yes e) r =
        ap₂ one_if (ap T.bound e ∙ into.0) (count_same S T k (same e))
        ∙ ap (λ (b : Bool). suc (one_if b (length (rows_of S k)))) (sym (ap S.bound e ∙ free))
    go (no e) r = ap₂ one_if (into.2 k e).0 (r (omega arith)) ∙ suc_if (S.bound k) (length (rows_of S k))

-- one number of the cells below n is bound
pub count_bound_one : {A : Type 0} (H : List (Row A)) (n j k : ℕ) → CountBound H n j → CountBound H n k → j ≡ k
count_bound_one H zero j k p q = p ∙ sym q
count_bound_one H (suc n) j k (inl (b, (i, c, p))) (inl (b', (i', c', p'))) = p ∙ ap suc (count_bound_one H n i i' c c') ∙ sym p'
count_bound_one H (suc n) j k (inl (b, c)) (inr (b', c')) = absurd (b' b)
count_bound_one H (suc n) j k (inr (b, c)) (inl (b', c')) = absurd (b b')
count_bound_one H (suc n) j k (inr (b, c)) (inr (b', c')) = count_bound_one H n j k c c'

-- entries that bind the same cells bind as many
pub count_bound_same : {A B : Type 0} (G : List (Row A)) (H : List (Row B)) → ((c : ℕ) → BoundBy G c ↔ BoundBy H c)
    → (n k : ℕ) → CountBound G n k → CountBound H n k
count_bound_same G H same zero k p = p
count_bound_same G H same (suc n) k (inl (b, (j, c, p))) = inl ((same n).0 b, (j, count_bound_same G H same n j c, p))
count_bound_same G H same (suc n) k (inr (b, c)) = inr (λ x. b ((same n).1 x), count_bound_same G H same n k c)

-- where the bound cells of a state are those that the entries bind, there are as many as rows
pub count_bound_rows : {A B : Type 0} (H : List (Row B)) (S : State A) (n : ℕ) → ((c : ℕ) → c < n → (S.bound c ≡ true) ↔ BoundBy H c)
    → CountBound H n (length (rows_of S n))
count_bound_rows H S zero same = refl
count_bound_rows H S (suc k) same = go (S.bound k) refl (count_bound_rows H S k (λ c l. same c (omega arith)))
  where
    go : (b : Bool) → S.bound k ≡ b → CountBound H k (length (rows_of S k)) → CountBound H (suc k) (length (put b (S.row k) (rows_of S k)))
    go true e c = inl ((same k (omega arith)).0 e, (length (rows_of S k), c, refl))
    go false e c = inr (λ b. true≢false (sym ((same k (omega arith)).1 b) ∙ e), c)
