-- What a draft's rows and tally have to do with the entries that it holds.
use Rattle.std.specs.Prelude.{◌≡◌, ℕ, ◌*◌, ◌<◌, List, [], length, slice_index_or}
use Rattle.span.specs.Kinds.{Member}
use Rattle.span.specs.Echelon.{Row, State}
use Rattle.span.specs.Held.{InSlots}
use Rattle.span.specs.Marked.{Full, fulls, Marks, StandsFor}
use Rattle.span.specs.Blocks.{Placed, of, FitsIn}
use Rattle.gf2.specs.Masks.{mask}
use Rattle.gf2.specs.Rows.{block_of}
use Rattle.gf2.specs.declared.row.Row.{Row as Record}
use Rattle.gf2.specs.declared.row.Block.{Block}
use Rattle.gf2.specs.declared.sets.CellSet.{CellSet}
use Rattle.shapes.specs.Limits.{most_blocks}
use Rattle.shapes.specs.declared.shape.Dims.{Dims}
use Rattle.drafts.specs.Entries.{answer_bits}
use Rattle.drafts.specs.declared.draft.Draft.{Draft}
use Rattle.drafts.specs.declared.tally.Noted.{Noted}
use Rattle.drafts.specs.declared.tally.Tally.{Tally}

-- What the tally notes of block b; past the last block, nothing.
abbrev pub noted_at : Tally → ℕ → Noted
noted_at t b = slice_index_or t.blocks b (record { slots = 0; bound = record { words = [] } })

-- The slots that block b has, by the tally.
abbrev pub slots_at : Tally → ℕ → ℕ
slots_at t b = (noted_at t b).slots

-- The bound cells of block b, by the tally, as the code has them.
abbrev pub cells_at : Tally → ℕ → CellSet
cells_at t b = (noted_at t b).bound

-- The same as a cell set.
abbrev pub bound_at : Tally → ℕ → ℕ
bound_at t b = mask (cells_at t b)

-- Nothing is noted of any block.
pub record Blank (t : Tally) : Type 0 where
  pub all : length t.blocks ≡ most_blocks
  pub none : (b : ℕ) → b < most_blocks → (slots_at t b ≡ 0) × (bound_at t b ≡ 0)

-- A draft's five numbers.
abbrev pub dims_of : {K : Type 0} → Draft K → Dims
dims_of d = d.shape.dims

-- Its rows.
abbrev pub records_of : {K : Type 0} → Draft K → List (Record K)
records_of d = d.rows.records.now

-- How many rows it has.
abbrev pub row_count : {K : Type 0} → Draft K → ℕ
row_count d = length (records_of d)

-- Block b among the rows, which stand one block after another.
abbrev pub block_at : {K : Type 0} → Draft K → ℕ → Block
block_at d b = record { start = b * (dims_of d).n; n = (dims_of d).n; bound = cells_at d.tally b }

-- The rows of block b, with its bound cells.
abbrev pub block_state : {K : Type 0} → (K → Full) → Draft K → ℕ → State Full
block_state view d b = block_of view fulls (records_of d) (block_at d b)

-- Block b stands for the entries G that it holds, and `in_slots` are those in its slots.
pub record BlockStands {K : Type 0} (view : K → Full) (marks : Marks fulls) (d : Draft K) (b : ℕ) (G : List (Row ℕ)) : Type 0 where
  pub in_slots : List (Row ℕ)
  pub are : InSlots G in_slots
  pub stands : StandsFor marks (dims_of d).n G in_slots (block_state view d b)
  pub count : slots_at d.tally b ≡ length in_slots

-- The draft holds H: these are entries of its shape, and each block's rows stand for its own.
pub record Stands {K : Type 0} (view : K → Full) (marks : Marks fulls) (d : Draft K) (H : List Placed) : Type 0 where
  pub fits : FitsIn (answer_bits (dims_of d)) (dims_of d).n H
  pub below : (x : Placed) → Member x H → x.0 < (dims_of d).b
  pub blocks : (b : ℕ) → b < (dims_of d).b → BlockStands view marks d b (of b H)
  -- The tally has a place for each block that a shape can have.
  pub notes : length d.tally.blocks ≡ most_blocks
