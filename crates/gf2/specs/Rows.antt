-- What rows in memory stand for, and what is done to them.
use Rattle.std.specs.Prelude.{◌≡◌, ℕ, ◌+◌, ◌<◌, ◌≤◌, List, map, length, take, drop, slice_index_or, slice_set}
use Rattle.span.specs.Sets.{has}
use Rattle.span.specs.Lead.{Lead}
use Rattle.span.specs.Kinds.{Kind}
use Rattle.span.specs.Echelon.{Row, rows, State, Echelon, Clear, Added, Put}
use Rattle.gf2.specs.Masks.{mask}
use Rattle.gf2.specs.declared.row.Row.{Row as Record}
use Rattle.gf2.specs.declared.row.Block.{Block}

-- The row that a record stands for.
abbrev pub row_of : {K A : Type 0} → (K → A) → Record K → Row A
row_of mean r = (mask r.cells, mean r.answer)

-- The state of the block whose rows stand in the records from `start` on, with its bound set.
abbrev pub state_of : {K A : Type 0} → (K → A) → Kind A → List (Record K) → ℕ → ℕ → State A
state_of mean kind records start bound = record { bound = has bound; row = λ c. slice_index_or (map (row_of mean) records) (start + c) (rows kind).none }

-- The state of a block.
abbrev pub block_of : {K A : Type 0} → (K → A) → Kind A → List (Record K) → Block → State A
block_of mean kind records block = state_of mean kind records block.start (mask block.bound)

-- The block's rows are all there.
abbrev pub There : {K : Type 0} → List (Record K) → Block → Type 0
There records block = block.start + block.n ≤ length records

-- The block's rows are all there, and these are they.
pub record Own {K : Type 0} (records : List (Record K)) (block : Block) (own : List (Record K)) : Type 0 where
  pub there : There records block
  pub are : own ≡ take block.n (drop block.start records)

-- Some of the block's rows are not there.
abbrev pub Missing : {K : Type 0} → List (Record K) → Block → Type 0
Missing records block = length records < block.start + block.n

-- The block's rows are all there, and r is q reduced: q with one set of bound rows added to it.
-- Where the rows are in echelon form, r holds no bound cell.
pub record Reduction {K A : Type 0} (mean : K → A) (kind : Kind A) (records : List (Record K)) (block : Block) (q r : Record K) : Type 0 where
  pub there : There records block
  pub added : Added kind block.n (block_of mean kind records block) (row_of mean q) (row_of mean r)
  pub clear : Echelon block.n (block_of mean kind records block) → Clear block.n (block_of mean kind records block) (mask r.cells)

-- The row is put at its lead cell, which is then bound, and no other record is altered.
-- A row with no cell, or whose lead cell is not one of the block's, alters nothing.
pub record Binding {K A : Type 0} (mean : K → A) (kind : Kind A) (records : List (Record K)) (block : Block) (row : Record K)
    (records' : List (Record K)) (bound' : ℕ) : Type 0 where
  pub put : (c : ℕ) → Lead (mask row.cells) c → c < block.n
      → Put (block_of mean kind records block) c (row_of mean row) (state_of mean kind records' block.start bound')
  pub written : (c : ℕ) → Lead (mask row.cells) c → c < block.n → records' ≡ slice_set records (block.start + c) row
  pub refused : ((c : ℕ) → Lead (mask row.cells) c → block.n ≤ c) → (records' ≡ records) × (bound' ≡ mask block.bound)

-- The same where the block's rows are all there; otherwise nothing is altered.
pub record BindingIn {K A : Type 0} (mean : K → A) (kind : Kind A) (records : List (Record K)) (block : Block) (row : Record K)
    (records' : List (Record K)) (bound' : ℕ) : Type 0 where
  pub there : There records block → Binding mean kind records block row records' bound'
  pub missing : Missing records block → (records' ≡ records) × (bound' ≡ mask block.bound)
