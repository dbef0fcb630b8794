-- When an entry can be taken: what it reduces to decides.
use Rattle.std.proofs.Common.{◌≡◌, ℕ, ◌^◌, ◌<◌, Bool, true, false, cond, eqb, ◌⊎◌, List, [], ◌∷◌, bit_xor, sym, refl, ap, ◌∙◌, subst, ap₂, inl, inr, true≢false, pow_pos, eq-eqb, ne_eqb}
use Rattle.std.proofs.Math.Decide.{ℕ_discrete as dec_eq}
use Rattle.std.proofs.lemmas.Nat.{xor_lt}
use Rattle.std.specs.Int.Bits.{xor_zero_r}
use Rattle.span.specs.Sets.{Within}
use Rattle.span.specs.Lead.{Lead}
use Rattle.span.specs.Kinds.{Kind, numbers, Comb}
use Rattle.span.specs.Echelon.{Row, rows, State, rows_of, Reduces, Stands, Put}
use Rattle.span.specs.Fillings.{xor_over, Satisfies, SatisfiesAll, Below, Solvable, ZeroInFree, SatisfiesRows}
use Rattle.span.specs.Held.{cells_of, BoundBy, FitsAll, IsTable}
use Rattle.span.proofs.Lead.{lead_has, empty_or_lead}
use Rattle.span.proofs.Comb.{cancel, comb_none, comb_member, comb_ind}
use Rattle.span.proofs.Echelon.{RowOf, row_member, member_row, LeadBound, rows_lead}
use Rattle.span.proofs.Reduce.{reduces}
use Rattle.span.proofs.Xors.{xor_over_empty, xor_over_xor}
use Rattle.span.proofs.Satisfied.{satisfies_comb}
use Rattle.span.proofs.Table.{table, table_rows, table_free, table_below, table_one}
use Rattle.span.proofs.Step.{within_lt, reduced_within, step_bind, step_dependent}
use Rattle.span.proofs.Bound.{cells_of_comb, bound_by, by_bound}

-- the state with the row v at the cell p
pub put_at : {A : Type 0} → State A → ℕ → Row A → State A
put_at S p v = record { bound = λ c. cond (eqb c p) true (S.bound c); row = λ c. cond (eqb c p) v (S.row c) }

-- it is such a state
pub put_at_lem : {A : Type 0} (S : State A) (p : ℕ) (v : Row A) → Put S p v (put_at S p v)
unfolding put_at
put_at_lem {A} S p v = (
  ap (λ (b : Bool). cond b true (S.bound p)) self,
  ap (λ (b : Bool). cond b v (S.row p)) self,
  λ c h.
      let other : eqb c p ≡ false = ne_eqb c p h in
      (ap (λ (b : Bool). cond b true (S.bound c)) other, ap (λ (b : Bool). cond b v (S.row c)) other),
)
  where
    self : eqb p p ≡ true
    self = eq-eqb p p refl

-- a state with no bound cell stands for no entries, whatever its rows hold
pub start_stands : {A : Type 0} (K : Kind A) (n : ℕ) (S : State A) → ((c : ℕ) → c < n → S.bound c ≡ false) → Stands K n [] S
start_stands {A} K n S free = (
  λ c h b. absurd (true≢false (sym b ∙ free c h)),
  λ v. (
    λ e. subst (Comb (rows K) (rows_of S n)) (sym e) (comb_none (rows K) (rows_of S n)),
    λ p. go v (rows_lead K S n (λ c h b. absurd (true≢false (sym b ∙ free c h))) v p),
  ),
)
  where
    go : (v : Row A) → (v ≡ (rows K).none) ⊎ LeadBound K S n v → v ≡ (rows K).none
    go v (inl e) = e
    go v (inr (p, h, b, l)) = absurd (true≢false (sym b ∙ free p h))

module _ (w n : ℕ) (H : List (Row ℕ)) (S : State ℕ) (stands : Stands numbers n H S) where
  -- a filling that satisfies the rows satisfies the entries
  pub rows_entries : (f : ℕ → ℕ) → SatisfiesRows n S f → SatisfiesAll n f H
  rows_entries f h e m =
      satisfies_comb n f (rows_of S n) (λ r q. go r (member_row S n r q)) e ((stands.1 e).0 (comb_member (rows numbers) H e m))
    where
      go : (r : Row ℕ) → RowOf S n r → Satisfies n f r
      go r (c, cn, b, q) = subst (Satisfies n f) (sym q) (h c cn b)

  -- and the other way round
  pub entries_rows : (f : ℕ → ℕ) → SatisfiesAll n f H → SatisfiesRows n S f
  entries_rows f h c cn b =
      satisfies_comb n f H h (S.row c) ((stands.1 (S.row c)).1 (comb_member (rows numbers) (rows_of S n) (S.row c) (row_member S n c cn b)))

  -- the rows' answers have as many bits as the entries'
  pub rows_below : FitsAll w n H → (c : ℕ) → c < n → S.bound c ≡ true → (S.row c).1 < 2 ^ w
  rows_below fits c cn b =
      comb_ind (rows numbers) (λ v. v.1 < 2 ^ w) (pow_pos w) (λ u v. xor_lt w u.1 v.1) H (λ e m. (fits e m).1)
      (S.row c) ((stands.1 (S.row c)).1 (comb_member (rows numbers) (rows_of S n) (S.row c) (row_member S n c cn b)))

  -- the table's words have as many bits as the entries' answers
  pub table_fits : FitsAll w n H → Below w (table n S)
  table_fits fits = table_below n S w (rows_below fits)

  -- the state's table satisfies the entries
  pub stands_solvable : FitsAll w n H → Solvable w n H
  stands_solvable fits = (table n S, table_fits fits, rows_entries (table n S) (table_rows n S stands.0))

  -- zero in the free cells, said of the entries and of the state
  pub free_by : (f : ℕ → ℕ) → ZeroInFree n S f → (c : ℕ) → c < n → ¬ BoundBy H c → f c ≡ 0
  free_by f z c cn nb = go (S.bound c) refl
    where
      go : (b : Bool) → S.bound c ≡ b → f c ≡ 0
      go true e = absurd (nb (bound_by numbers n H S stands c cn e))
      go false e = z c cn e

  pub by_free : (f : ℕ → ℕ) → ((c : ℕ) → c < n → ¬ BoundBy H c → f c ≡ 0) → ZeroInFree n S f
  by_free f z c cn e = z c cn (λ b. true≢false (sym (by_bound numbers n H S stands c b).1 ∙ e))

  -- the state's table is the table of the entries
  pub table_is : IsTable n H (table n S)
  table_is = (rows_entries (table n S) (table_rows n S stands.0), free_by (table n S) (table_free n S stands.0))

  -- and the only one
  pub table_only : (f g : ℕ → ℕ) → IsTable n H f → IsTable n H g → (c : ℕ) → c < n → f c ≡ g c
  table_only f g (hf, zf) (hg, zg) = table_one n S stands.0 f g (entries_rows f hf) (entries_rows g hg) (by_free f zf) (by_free g zg)

  -- an entry that reduces to no cells and a word other than zero: no filling satisfies it with the entries
  pub conflict : (e v : Row ℕ) → Reduces numbers n S e v → v.0 ≡ 0 → ¬ (v.1 ≡ 0) → (f : ℕ → ℕ) → SatisfiesAll n f (e ∷ H) → ⊥
  conflict e v (p, clear) empty other f h = other (sym sat_v ∙ ap (xor_over f n) empty ∙ xor_over_empty f n)
    where
      -- the filling satisfies what was added, and so what remains
      sat_sum : Satisfies n f ((rows numbers).sum e v)
      sat_sum = satisfies_comb n f H (λ x m. h x (inr m)) ((rows numbers).sum e v) ((stands.1 ((rows numbers).sum e v)).1 p)

      sat_v : Satisfies n f v
      sat_v =
          sym (ap (xor_over f n) (cancel numbers e.0 v.0)) ∙ xor_over_xor f n e.0 (bit_xor e.0 v.0)
          ∙ ap₂ bit_xor (h e (inl refl)) sat_sum ∙ cancel numbers e.1 v.1

  -- its cell set is a sum of cell sets of entries
  pub conflict_cells : (e v : Row ℕ) → Reduces numbers n S e v → v.0 ≡ 0 → Comb numbers (cells_of H) e.0
  conflict_cells e v (p, clear) empty =
      subst (Comb numbers (cells_of H)) (ap (bit_xor e.0) empty ∙ xor_zero_r e.0)
      (cells_of_comb numbers H ((rows numbers).sum e v) ((stands.1 ((rows numbers).sum e v)).1 p))

  -- what an entry comes to: a state that stands for the entries with it, or a conflict whose cell set is a sum of the others'
  abbrev pub Outcome : Row ℕ → Type 0
  Outcome e = ((U : State ℕ) × Stands numbers n (e ∷ H) U) ⊎ (((f : ℕ → ℕ) → SatisfiesAll n f (e ∷ H) → ⊥) × Comb numbers (cells_of H) e.0)

  pub outcome : (e : Row ℕ) → Within n e.0 → Outcome e
  outcome e he = go (reduces numbers n S stands.0 e)
    where
      go : (v : Row ℕ) × Reduces numbers n S e v → Outcome e
      go (v, r) = by_cells (empty_or_lead n v.0 inside)
        where
          inside : Within n v.0
          inside = reduced_within numbers n S stands.0 e v he r

          by_word : v.0 ≡ 0 → Dec (v.1 ≡ 0) → Outcome e
          by_word empty (yes z) =
              inl (S, step_dependent numbers n S H e stands (subst (Reduces numbers n S e) (λ i. (empty i, z i)) r))
          by_word empty (no z) = inr (conflict e v r empty z, conflict_cells e v r empty)

          by_cells : (v.0 ≡ 0) ⊎ ((p : ℕ) × Lead v.0 p) → Outcome e
          by_cells (inl empty) = by_word empty (dec_eq v.1 0)
          by_cells (inr (p, lead)) =
              inl (
                put_at S p v,
                step_bind numbers n S (put_at S p v) p v lead (within_lt n v.0 p inside (lead_has v.0 p lead)) r.1 (put_at_lem S p v) H e stands he r,
              )
