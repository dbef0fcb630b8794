-- Rows whose values are seen as words with slot sets.
use Rattle.std.proofs.Common.{◌≡◌, ℕ, zero, suc, ◌+◌, List, [], ◌∷◌, map, get_or, sym, refl, subst, subst₂}
use Rattle.span.specs.Kinds.{Kind}
use Rattle.span.specs.Echelon.{Row, rows, Added, Put}
use Rattle.span.specs.Marked.{Full, fulls}
use Rattle.span.proofs.Maps.{row_with, Mapped, echelon_back, clear_map, added_map, put_map}
use Rattle.gf2.specs.Kinds.{Seen}
use Rattle.gf2.specs.Masks.{mask}
use Rattle.gf2.specs.Rows.{row_of, state_of, block_of}
use Rattle.gf2.specs.Theorems.{ReductionIsSeen, BindingIsSeen}
use Rattle.gf2.specs.declared.row.Row.{Row as Record}

module _ {K A : Type 0} (mean : K → A) (kind : Kind A) (view : K → Full) (seen : Seen mean kind view) where
  -- one row
  row_seen : (r : Record K) → row_with seen.through (row_of mean r) ≡ row_of view r
  row_seen r i = (mask r.cells, sym (seen.of_mean r.answer) i)

  -- the row at a place, or none
  row_at_seen : (records : List (Record K)) (i : ℕ)
      → get_or (map (row_of view) records) i (rows fulls).none ≡ row_with seen.through (get_or (map (row_of mean) records) i (rows kind).none)
  row_at_seen [] i = λ j. (0, sym seen.of_none j)
  row_at_seen (r ∷ records) zero = sym (row_seen r)
  row_at_seen (r ∷ records) (suc i) = row_at_seen records i

  -- the state of a block
  state_seen : (records : List (Record K)) (start bound : ℕ) → Mapped seen.through (state_of mean kind records start bound) (state_of view fulls records start bound)
  state_seen records start bound = record { bound = λ c. refl; row = λ c. row_at_seen records (start + c) }

  pub reduction_seen : ReductionIsSeen mean kind view
  reduction_seen records block q r d =
      let S = block_of mean kind records block in
      let T = block_of view fulls records block in
      let m = state_seen records block.start (mask block.bound) in
      record {
        there = d.there;
        added = subst₂ (Added fulls block.n T) (row_seen q) (row_seen r)
            (added_map seen.through S T m kind fulls seen.of_none seen.of_sum block.n (row_of mean q) (row_of mean r) d.added);
        clear = λ ech. clear_map seen.through S T m block.n (mask r.cells) (d.clear (echelon_back seen.through S T m block.n ech));
      }

  pub binding_seen : BindingIsSeen mean kind view
  binding_seen records block row records' bound' d =
      let S = block_of mean kind records block in
      let T = block_of view fulls records block in
      let S' = state_of mean kind records' block.start bound' in
      let T' = state_of view fulls records' block.start bound' in
      record {
        put = λ c l h. subst (λ (v : Row Full). Put T c v T') (row_seen row)
            (put_map seen.through S S' T T' (state_seen records block.start (mask block.bound)) (state_seen records' block.start bound') c (row_of mean row) (d.put c l h));
        written = d.written;
        refused = d.refused;
      }
