-- What questions about bound cells promise of a draft, whatever it holds.
use Rattle.std.specs.Prelude.{ℕ, Bool, List, Result}
use Rattle.span.specs.Held.{CountBound}
use Rattle.span.specs.Marked.{Full, fulls, Marks}
use Rattle.span.specs.Blocks.{Placed, of}
use Rattle.shapes.specs.declared.fault.Fault.{Fault}
use Rattle.drafts.specs.Questions.{block_in, cell_in, Tells, SaysBound}
use Rattle.drafts.specs.Standing.{dims_of, row_count, Stands}
use Rattle.drafts.specs.declared.draft.Draft.{Draft}

-- The answer says whether what the draft holds binds the cell.
abbrev pub BoundInDraft : {K : Type 0} → (K → Full) → Marks fulls → Draft K → ℕ → ℕ → Bool → Type 0
BoundInDraft view marks d b c answer = (H : List Placed) → Stands view marks d H → SaysBound H b c answer

-- The answer says how many cells of the block it binds.
abbrev pub CountInDraft : {K : Type 0} → (K → Full) → Marks fulls → Draft K → ℕ → ℕ → Type 0
CountInDraft view marks d b count = (H : List Placed) → Stands view marks d H → CountBound (of b H) (dims_of d).n count

-- Asked about a cell.
abbrev pub AskedCell : {K : Type 0} → (K → Full) → Marks fulls → Draft K → ℕ → ℕ → Result Bool Fault → Type 0
AskedCell view marks d b c r = Tells (cell_in (dims_of d) (row_count d) b c) (BoundInDraft view marks d b c) r

-- Asked about a block.
abbrev pub AskedCount : {K : Type 0} → (K → Full) → Marks fulls → Draft K → ℕ → Result ℕ Fault → Type 0
AskedCount view marks d b r = Tells (block_in (dims_of d) (row_count d) b) (CountInDraft view marks d b) r
