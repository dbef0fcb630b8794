-- What a draft tells of its bound cells, by what is held.
use Rattle.std.specs.Prelude.{◌≡◌, ℕ, Bool, true, cond, ◌↔◌, List, Ok, Err, Result, nat_lt}
use Rattle.span.specs.Held.{CountBound}
use Rattle.span.specs.Blocks.{Placed, of, BoundIn}
use Rattle.shapes.specs.Results.{and_then}
use Rattle.shapes.specs.declared.fault.Fault.{Fault}
use Rattle.shapes.specs.declared.fault.Fault.TheVariants.{NoBlock, NoCell}
use Rattle.shapes.specs.declared.shape.Dims.{Dims}
use Rattle.drafts.specs.Entries.{with_rows}

-- The block, where the draft has rows enough and such a block.
abbrev pub block_in : Dims → ℕ → ℕ → Result ℕ Fault
block_in d rows b = and_then (with_rows d rows) (λ _. cond (nat_lt b d.b) (Ok b) (Err NoBlock))

-- The cell, where a block has such a cell.
abbrev pub cell_of_block : Dims → ℕ → Result ℕ Fault
cell_of_block d c = cond (nat_lt c d.n) (Ok c) (Err NoCell)

-- The cell, where there are such a block and such a cell.
abbrev pub cell_in : Dims → ℕ → ℕ → ℕ → Result ℕ Fault
cell_in d rows b c = and_then (block_in d rows b) (λ _. cell_of_block d c)

-- The answer has the property where all checks pass, and otherwise is the fault of the first that fails.
abbrev pub Tells : {X Y : Type 0} → Result X Fault → (Y → Type 0) → Result Y Fault → Type 0
Tells {X} {Y} (Ok x) P r = (y : Y) × (r ≡ Ok y) × P y
Tells (Err f) P r = r ≡ Err f

-- Yes exactly where the held entries bind the cell.
abbrev pub SaysBound : List Placed → ℕ → ℕ → Bool → Type 0
SaysBound H b c answer = (answer ≡ true) ↔ BoundIn H b c

-- Whether a cell is bound.
abbrev pub TellsBound : Dims → ℕ → List Placed → ℕ → ℕ → Result Bool Fault → Type 0
TellsBound d rows H b c r = Tells (cell_in d rows b c) (SaysBound H b c) r

-- How many cells of a block are bound.
abbrev pub TellsCount : Dims → ℕ → List Placed → ℕ → Result ℕ Fault → Type 0
TellsCount d rows H b r = Tells (block_in d rows b) (CountBound (of b H) d.n) r
