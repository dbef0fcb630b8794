-- Reading out the words of a block.
use Rattle.std.specs.Prelude.{◌≡◌, ℕ, ◌^◌, ◌<◌, ◌≤◌, List, length, bit_xor, slice_index, Result, IsOk, OnOk, OnErr}
use Rattle.span.specs.Sets.{has}
use Rattle.span.specs.Echelon.{State, Echelon}
use Rattle.span.specs.Fillings.{pick, xor_over, SatisfiesRows, ZeroInFree, substituted}
use Rattle.span.specs.Marked.{Full, fulls, Marks, word_state}
use Rattle.gf2.specs.Masks.{mask}
use Rattle.gf2.specs.Rows.{block_of, There}
use Rattle.gf2.specs.declared.row.Misfit.{Misfit}
use Rattle.gf2.specs.declared.kinds.Word.{Word}
use Rattle.gf2.specs.declared.row.Row.{Row as Record}
use Rattle.gf2.specs.declared.row.Block.{Block}
use Rattle.gf2.specs.declared.sets.CellSet.{CellSet}

-- The words of a block's rows, as a state.
abbrev pub words_of : {K : Type 0} → (K → Full) → Marks fulls → List (Record K) → Block → State ℕ
words_of view marks records block = word_state marks (block_of view fulls records block)

-- Words in memory as a filling.
abbrev pub word_at : List ℕ → ℕ → ℕ
word_at words c = slice_index words c

-- The row r says what the word of the cell c is made of: its own word, and the words over its cells.
abbrev pub Substitution : {K : Type 0} → (K → Full) → Marks fulls → List (Record K) → Block → ℕ → Record Word → Type 0
Substitution view marks records block c r =
    (f : ℕ → ℕ) → bit_xor r.answer.0 (xor_over f block.n (mask r.cells)) ≡ substituted block.n (words_of view marks records block) f c

-- The same of a cell that is there.
abbrev pub SubstitutionIn : {K : Type 0} → (K → Full) → Marks fulls → List (Record K) → Block → ℕ → Record Word → Type 0
SubstitutionIn view marks records block c r = There records block × (c < block.n) × Substitution view marks records block c r

-- The block's rows are not all there, or c is not one of its cells.
abbrev pub NoCell : {K : Type 0} → List (Record K) → Block → ℕ → Type 0
NoCell records block c = There records block → block.n ≤ c

-- A substitution by the cell's own row alone, and of any number of words.
abbrev pub MadeOf : {K : Type 0} → (K → Full) → Marks fulls → Record K → CellSet → ℕ → Record Word → Type 0
MadeOf view marks row bound c r =
    (f : ℕ → ℕ) (n : ℕ) → bit_xor r.answer.0 (xor_over f n (mask r.cells)) ≡ pick (has (mask bound) c) (bit_xor (marks.word (view row.answer)) (xor_over f n (bit_xor (mask row.cells) (2 ^ c))))

-- The words satisfy the block's rows, where those are in echelon form, and are zero in the free cells.
pub record Filling {K : Type 0} (view : K → Full) (marks : Marks fulls) (records : List (Record K)) (block : Block) (words : List ℕ) : Type 0 where
  pub rows : Echelon block.n (words_of view marks records block) → SatisfiesRows block.n (words_of view marks records block) (word_at words)
  pub free : ZeroInFree block.n (words_of view marks records block) (word_at words)

-- They are written where the block's rows are all there and there are as many words as cells; otherwise it is refused, and nothing is written.
pub record FillingIn {K : Type 0} (view : K → Full) (marks : Marks fulls) (records : List (Record K)) (block : Block) (words : List ℕ)
    (r : Result (Unit {0}) Misfit) (words' : List ℕ) : Type 0 where
  pub taken : There records block → length words ≡ block.n → IsOk r
  pub only : OnOk r (There records block × (length words ≡ block.n))
  pub filled : OnOk r (Filling view marks records block words')
  pub kept : OnErr r (words' ≡ words)
