-- The steps of entering and of writing, as their parts promise them to each other.
use Rattle.std.specs.Prelude.{◌≡◌, ℕ, ◌+◌, ◌*◌, ◌<◌, ◌≤◌, min, cond, List, length, take, drop, Ok, Err, nat_lt, slice_set}
use Rattle.std.specs.List.{flat_map}
use Rattle.span.specs.Kinds.{Kind}
use Rattle.span.specs.Slots.{Blame}
use Rattle.span.specs.Held.{Fits}
use Rattle.span.specs.Marked.{Full, fulls, Marks}
use Rattle.span.specs.Blocks.{Placed}
use Rattle.gf2.specs.Masks.{width, mask, value}
use Rattle.gf2.specs.Fills.{Filling}
use Rattle.gf2.specs.Rows.{BindingIn}
use Rattle.gf2.specs.declared.row.Row.{Row as Record}
use Rattle.gf2.specs.declared.sets.CellSet.{CellSet}
use Rattle.gf2.specs.declared.elimination.rows.Rows.{Rows}
use Rattle.shapes.specs.declared.fault.Fault.TheVariants as fault
use Rattle.table.specs.Sizes.{width as cell_width, cell_count}
use Rattle.table.specs.Images.{bytes_of}
use Rattle.drafts.specs.Entries.{answer_bits}
use Rattle.drafts.specs.Outcomes.{dependent}
use Rattle.drafts.specs.Standing.{dims_of, records_of, row_count, slots_at, block_at}
use Rattle.drafts.specs.Entering.{Holds}
use Rattle.drafts.specs.declared.draft.Draft.{Draft}
use Rattle.drafts.specs.declared.draft.enter.Verdict.{Verdict}
use Rattle.drafts.specs.declared.draft.enter.Verdict.TheVariants.{Binds, Dependent, Conflict}
use Rattle.drafts.specs.declared.entry.Entry.{Entry}

-- The draft has a row for each cell.
abbrev pub Enough : {K : Type 0} → Draft K → Type 0
Enough d = cell_count (dims_of d) ≤ row_count d

-- ---- entering

-- The entry that the code's entry stands for.
abbrev pub placed : Entry → Placed
placed e = (e.block, (mask e.cells, e.answer))

-- The entry is one of the draft's shape, and the draft has a row for each cell.
pub record Within {K : Type 0} (d : Draft K) (x : Placed) : Type 0 where
  pub block : x.0 < (dims_of d).b
  pub fits : Fits (answer_bits (dims_of d)) (dims_of d).n x.1
  pub rows : Enough d

-- What a reduced row comes to.
abbrev pub Sorted : {K : Type 0} → (K → Full) → Marks fulls → Record K → Verdict K → Type 0
Sorted view marks left (Binds row) = (row ≡ left) × (¬ (mask left.cells ≡ 0))
Sorted view marks left Dependent = (mask left.cells ≡ 0) × (marks.word (view left.answer) ≡ 0)
Sorted view marks left (Conflict slots) =
    (mask left.cells ≡ 0) × (¬ (marks.word (view left.answer) ≡ 0)) × (value slots ≡ marks.slots (view left.answer))

-- The row is put in block b of the draft, with the slot marked that it takes there.
pub record Puts {K A : Type 0} (mean : K → A) (kind : Kind A) (view : K → Full) (marks : Marks fulls) (d : Draft K) (b : ℕ) (row : Record K) (slot : ℕ) (d' : Draft K)
    : Type 0 where
  pub next : slot ≡ slots_at d.tally b
  pub answer : K
  pub marked : view answer ≡ cond (nat_lt slot width) (fulls.sum (marks.mark slot) (view row.answer)) (view row.answer)
  pub rows : Rows K
  pub bound : CellSet
  pub bind : BindingIn mean kind (records_of d) (block_at d b) (record { cells = row.cells; answer = answer }) rows.records.now (mask bound)
  pub is : d' ≡ record { shape = d.shape; rows = rows; tally = record { blocks = slice_set d.tally.blocks b (record { slots = min (slot + 1) 65535; bound = bound }) } }

-- What is done by the verdict on the entry x is what is to be done with x.
abbrev pub Judges : {K A : Type 0} → (K → A) → Kind A → (K → Full) → Marks fulls → Blame → Draft K → Placed → Verdict K → Type 0
Judges {K} mean kind view marks blame d x (Binds row) =
    (slot : ℕ) (d' : Draft K) → Puts mean kind view marks d x.0 row slot d' → Holds view marks blame d x (Ok (x.0, slot)) d'
Judges mean kind view marks blame d x Dependent = Holds view marks blame d x (Ok (x.0, dependent)) d
Judges mean kind view marks blame d x (Conflict slots) = Holds view marks blame d x (Err (fault.Conflict x.0 slots)) d

-- ---- writing

-- The words of the first m blocks, one block after another, and their bytes.
pub record WordsOf {K : Type 0} (view : K → Full) (marks : Marks fulls) (d : Draft K) (m : ℕ) (bytes : List ℕ) : Type 0 where
  pub words : List ℕ
  pub count : length words ≡ m * (dims_of d).n
  pub are : bytes ≡ flat_map (bytes_of (cell_width (dims_of d))) words
  pub fill : (b : ℕ) → b < m → Filling view marks (records_of d) (block_at d b) (take (dims_of d).n (drop (b * (dims_of d).n) words))

-- The words of block b, and their bytes.
pub record BlockWords {K : Type 0} (view : K → Full) (marks : Marks fulls) (d : Draft K) (b : ℕ) (bytes : List ℕ) : Type 0 where
  pub words : List ℕ
  pub count : length words ≡ (dims_of d).n
  pub are : bytes ≡ flat_map (bytes_of (cell_width (dims_of d))) words
  pub fill : Filling view marks (records_of d) (block_at d b) words
