-- What follows of rows: their values seen as words with slot sets, and blocks side by side.
use Rattle.std.specs.Prelude.{ℕ, ◌+◌, ◌≤◌, ◌⊎◌, List}
use Rattle.span.specs.Kinds.{Kind}
use Rattle.span.specs.Echelon.{SameBelow}
use Rattle.span.specs.Marked.{Full, fulls}
use Rattle.gf2.specs.Rows.{block_of, Reduction, Binding, BindingIn}
use Rattle.gf2.specs.declared.row.Row.{Row as Record}
use Rattle.gf2.specs.declared.row.Block.{Block}

-- A reduction of rows is one of their words and slot sets.
abbrev pub ReductionIsSeen : {K A : Type 0} → (K → A) → Kind A → (K → Full) → Type 0
ReductionIsSeen {K} mean kind view =
    (records : List (Record K)) (block : Block) (q r : Record K) → Reduction mean kind records block q r → Reduction view fulls records block q r

-- A row put among rows is put among their words and slot sets.
abbrev pub BindingIsSeen : {K A : Type 0} → (K → A) → Kind A → (K → Full) → Type 0
BindingIsSeen {K} mean kind view =
    (records : List (Record K)) (block : Block) (row : Record K) (records' : List (Record K)) (bound' : ℕ)
    → Binding mean kind records block row records' bound' → Binding view fulls records block row records' bound'

-- The two blocks have no place in common.
abbrev pub Disjoint : Block → Block → Type 0
Disjoint a b = (a.start + a.n ≤ b.start) ⊎ (b.start + b.n ≤ a.start)

-- A row put in one block leaves the rows of every other as they were.
abbrev pub OthersStay : {K A : Type 0} → (K → A) → Kind A → Type 0
OthersStay {K} mean kind =
    (records : List (Record K)) (block : Block) (row : Record K) (records' : List (Record K)) (bound' : ℕ)
    → BindingIn mean kind records block row records' bound'
    → (other : Block) → Disjoint block other → SameBelow other.n (block_of mean kind records other) (block_of mean kind records' other)
