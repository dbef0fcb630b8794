-- The theorems, put together from the lemmas.
use Rattle.std.proofs.Common.{◌≡◌, ℕ, List, sym, subst}
use Rattle.span.specs.Kinds.{Kind}
use Rattle.span.specs.Echelon.{Row, Reduces}
use Rattle.span.specs.Fillings.{Below, Solvable}
use Rattle.span.specs.Held.{Held, InSlots, IsTable}
use Rattle.span.specs.Blocks.{of, SolvableIn, IsTableIn}
use Rattle.span.specs.Theorems.{ReductionIsOne, StepStands, BoundIsBound, ConflictIsConflict, TableIsOne, RowsGiveTable, HeldHasTable, SlotsAreOne, RunIsOne, HeldIsOne, BlocksHaveRuns, BlocksHaveTable}
use Rattle.span.proofs.Lead.{lead_has}
use Rattle.span.proofs.Reduce.{reduces, reduces_one}
use Rattle.span.proofs.Table.{table, table_rows, table_free, table_one}
use Rattle.span.proofs.Step.{within_lt, reduced_within, step_bind, step_dependent}
use Rattle.span.proofs.Bound.{bound_by, by_bound}
use Rattle.span.proofs.Solve.{rows_entries, entries_rows, free_by, by_free, table_fits, table_is, table_only, conflict}
use Rattle.span.proofs.Held.{Good, good, held_fits, held_exists}
use Rattle.span.proofs.Slots.{chosen_one, comb_slots}
use Rattle.span.proofs.Runs.{slots_exist, run_parts, run_of_parts}
use Rattle.span.proofs.Once.{held_one, in_slots_one}
use Rattle.span.proofs.Blocks.{held_of, fits_of, table_in_exists, table_in_same}

-- each row reduces, and to one row only
pub reduction_is_one : {A : Type 0} (K : Kind A) → ReductionIsOne K
reduction_is_one {A} K n S ech v =
    let r : (w : Row A) × Reduces K n S v w = reduces K n S ech v in
    (r.0, r.1, λ x q. reduces_one K n S ech v r.0 x r.1 q)

-- one entry more
pub step_stands : {A : Type 0} (K : Kind A) → StepStands K
step_stands {A} K n H S stands e v he r = (
  λ p lead T into. step_bind K n S T p v lead (within_lt n v.0 p (reduced_within K n S stands.0 e v he r) (lead_has v.0 p lead)) r.1 into H e stands he r,
  λ z. step_dependent K n S H e stands (subst (Reduces K n S e) z r),
)

-- the bound cells
pub bound_is_bound : {A : Type 0} (K : Kind A) → BoundIsBound K
bound_is_bound {A} K n H S stands c = (λ b. bound_by K n H S stands c b.0 b.1, by_bound K n H S stands c)

-- a conflict
pub conflict_is_conflict : ConflictIsConflict
conflict_is_conflict n H S stands e v r e0 other f h = conflict 0 n H S stands e v r e0 other f h

-- the table of a state
pub table_is_one : TableIsOne
table_is_one n S ech =
    (table n S, table_rows n S ech, table_free n S ech, λ g hg zg. table_one n S ech (table n S) g (table_rows n S ech) hg (table_free n S ech) zg)

-- the table of what is held
pub held_has_table : HeldHasTable
held_has_table w n E H fits held =
    let g : Good n E H = good w n E H fits held in
    let is : IsTable n H (table n g.state) = table_is w n H g.state g.stands in
    (table n g.state, table_fits w n H g.state g.stands (held_fits w n E H fits held), is, λ f tf. table_only w n H g.state g.stands (table n g.state) f is tf)

-- the table of the entries, by the rows of a state that stands for them
pub rows_give_table : RowsGiveTable
rows_give_table n H S stands f = (
  λ t. (rows_entries 0 n H S stands f t.0, free_by 0 n H S stands f t.1),
  λ t. (entries_rows 0 n H S stands f t.0, by_free 0 n H S stands f t.1),
)

-- the slots of a combination
pub slots_are_one : SlotsAreOne
slots_are_one L apart = (chosen_one L apart, comb_slots L)

-- a run goes by its enterings alone
pub run_is_one : RunIsOne
run_is_one w n E fits =
    let h : (H : List (Row ℕ)) × Held w n E H × Good n E H = held_exists w n E fits in
    let s : (L : List (Row ℕ)) × InSlots h.0 L = slots_exist w n E h.0 fits h.1 in (
      h.0,
      s.0,
      run_of_parts w n E h.0 s.0 h.1 s.1,
      λ H L run.
          let parts : Held w n E H × InSlots H L = run_parts w n E H L run in
          let same : h.0 ≡ H = held_one (Solvable w n) E h.0 H h.1 parts.0 in
          (same, in_slots_one h.0 s.0 L s.1 (subst (λ (G : List (Row ℕ)). InSlots G L) (sym same) parts.1)),
    )

-- what is held in all blocks
pub held_is_one : HeldIsOne
held_is_one w n = held_one (SolvableIn w n)

-- the runs of the blocks
pub blocks_have_runs : BlocksHaveRuns
blocks_have_runs w n E H fits held b =
    let own : Held w n (of b E) (of b H) = held_of w n E H held b in
    let r : (L : List (Row ℕ)) × InSlots (of b H) L = slots_exist w n (of b E) (of b H) (fits_of w n E fits b) own in (
      r.0,
      run_of_parts w n (of b E) (of b H) r.0 own r.1,
      λ M other. in_slots_one (of b H) r.0 M r.1 (run_parts w n (of b E) (of b H) M other).1,
    )

-- the table of all blocks
pub blocks_have_table : BlocksHaveTable
blocks_have_table w n E H fits held =
    let r : (g : ℕ → ℕ → ℕ) × ((b : ℕ) → Below w (g b)) × IsTableIn n H g = table_in_exists w n E H fits held in
    (r.0, r.1, r.2, λ f tf. table_in_same w n E E H H fits held held (λ e. (λ m. m, λ m. m)) r.0 f r.2 tf)
