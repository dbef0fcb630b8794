-- The bound cells of a state are those that the entries bind.
use Rattle.std.proofs.Common.{◌≡◌, ℕ, ◌<◌, true, false, ◌⊎◌, ◌↔◌, List, bit_xor, sym, refl, ap, ◌∙◌, subst, inl, inr, true≢false}
use Rattle.span.specs.Sets.{has}
use Rattle.span.specs.Lead.{Lead}
use Rattle.span.specs.Kinds.{Kind, numbers, Comb, SameSpan}
use Rattle.span.specs.Echelon.{Row, rows, State, rows_of, Reduces, Stands}
use Rattle.span.specs.Held.{cells, cells_of, BoundBy}
use Rattle.span.proofs.Bits.{has_not_zero}
use Rattle.span.proofs.Lead.{lead_has, lead_one}
use Rattle.span.proofs.Comb.{cancel, comb_sum, comb_member}
use Rattle.span.proofs.Span.{comb_map, comb_lift, span_map}
use Rattle.span.proofs.Echelon.{row_member, LeadBound, rows_lead, clear_none}

module _ {A : Type 0} (K : Kind A) where
  -- the cell sets of a combination's entries sum to its cell set
  pub cells_of_comb : (H : List (Row A)) (v : Row A) → Comb (rows K) H v → Comb numbers (cells_of H) v.0
  cells_of_comb = comb_map (rows K) numbers cells refl (λ x y. refl)

  -- each sum of cell sets is the cell set of a combination
  pub comb_of_cells : (H : List (Row A)) (m : ℕ) → Comb numbers (cells_of H) m → (v : Row A) × Comb (rows K) H v × (v.0 ≡ m)
  comb_of_cells = comb_lift (rows K) numbers cells refl (λ x y. refl)

  -- entries with the same combinations have cell sets with the same combinations
  pub cells_span : (G H : List (Row A)) → SameSpan (rows K) G H → SameSpan numbers (cells_of G) (cells_of H)
  cells_span = span_map (rows K) numbers cells refl (λ x y. refl)

  -- a bound cell is bound by the entries
  pub bound_by : (n : ℕ) (H : List (Row A)) (S : State A) → Stands K n H S → (c : ℕ) → c < n → S.bound c ≡ true → BoundBy H c
  bound_by n H S (ech, span) c h b =
      ((S.row c).0, cells_of_comb H (S.row c) ((span (S.row c)).1 (comb_member (rows K) (rows_of S n) (S.row c) (row_member S n c h b))), (ech c h b).0)

  -- a cell bound by the entries is bound, and below n
  pub by_bound : (n : ℕ) (H : List (Row A)) (S : State A) → Stands K n H S → (c : ℕ) → BoundBy H c → (c < n) × (S.bound c ≡ true)
  by_bound n H S (ech, span) c (m, p, lead) =
      let r : (v : Row A) × Comb (rows K) H v × (v.0 ≡ m) = comb_of_cells H m p in
      go r.0 r.2 (rows_lead K S n (λ d h b. (ech d h b).0) r.0 ((span r.0).0 r.1))
    where
      go : (v : Row A) → v.0 ≡ m → (v ≡ (rows K).none) ⊎ LeadBound K S n v → (c < n) × (S.bound c ≡ true)
      go v e (inl z) = absurd (has_not_zero m c (lead_has m c lead) (sym e ∙ ap cells z))
      go v e (inr (q, h, b, l)) =
          let same : q ≡ c = lead_one m q c (subst (λ (x : ℕ). Lead x q) e l) lead in
          subst (λ (x : ℕ). (x < n) × (S.bound x ≡ true)) same (h, b)

  -- which cells are bound goes by the combinations of the cell sets alone
  pub bound_span : (G H : List (Row A)) → SameSpan numbers (cells_of G) (cells_of H) → (c : ℕ) → BoundBy G c ↔ BoundBy H c
  bound_span G H s c = (λ x. (x.0, (s x.0).0 x.1, x.2), λ x. (x.0, (s x.0).1 x.1, x.2))

-- a free cell is not bound by the entries
pub free_not : {A : Type 0} (K : Kind A) (n : ℕ) (H : List (Row A)) (S : State A) → Stands K n H S → (c : ℕ) → S.bound c ≡ false → ¬ BoundBy H c
free_not K n H S stands c free b = true≢false (sym (by_bound K n H S stands c b).1 ∙ free)

-- the cell set of an entry that reduces to a row with cells is no combination of the held entries' cell sets
pub new_cells : {A : Type 0} (K : Kind A) (n : ℕ) (H : List (Row A)) (S : State A) → Stands K n H S → (e v : Row A) → Reduces K n S e v
    → (p : ℕ) → has v.0 p ≡ true → ¬ Comb numbers (cells_of H) e.0
new_cells {A} K n H S (ech, span) e v (made, clear) p h c = has_not_zero v.0 p h (sym same ∙ ap cells zero_sum)
  where
    y : (x : Row A) × Comb (rows K) H x × (x.0 ≡ e.0)
    y = comb_of_cells K H e.0 c

    same : bit_xor y.0.0 (bit_xor e.0 v.0) ≡ v.0
    same = ap (λ (m : ℕ). bit_xor m (bit_xor e.0 v.0)) y.2 ∙ cancel numbers e.0 v.0

    zero_sum : (rows K).sum y.0 ((rows K).sum e v) ≡ (rows K).none
    zero_sum =
        clear_none K S n ech ((rows K).sum y.0 ((rows K).sum e v))
        (comb_sum (rows K) (rows_of S n) y.0 ((rows K).sum e v) ((span y.0).0 y.1) made)
        (λ d l b. ap (λ (m : ℕ). has m d) same ∙ clear d l b)
