-- Rows in echelon form, for every answer kind: each bound cell has one row, which it leads.
use Rattle.std.specs.Prelude.{◌≡◌, Bool, true, false, List, [], ◌∷◌, ℕ, zero, suc, ◌<◌}
use Rattle.span.specs.Sets.{has, Within}
use Rattle.span.specs.Lead.{Lead}
use Rattle.span.specs.Kinds.{Kind, numbers, both, Comb, SameSpan}

-- A row: a cell set with an answer.
abbrev pub Row : Type 0 → Type 0
Row A = ℕ × A

-- Rows add up cell set by cell set and answer by answer.
abbrev pub rows : {A : Type 0} → Kind A → Kind (Row A)
rows K = both numbers K

-- Which cells are bound, and the row of each bound cell; the row of a free cell is not looked at.
pub record State (A : Type 0) : Type 0 where
  pub bound : ℕ → Bool
  pub row : ℕ → Row A

-- An entry put in front of a list, or not.
abbrev pub put : {V : Type 0} → Bool → V → List V → List V
put true v l = v ∷ l
put false v l = l

-- The rows of the bound cells below n, the highest cell first.
abbrev pub rows_of : {A : Type 0} → State A → ℕ → List (Row A)
rows_of S zero = []
rows_of S (suc k) = put (S.bound k) (S.row k) (rows_of S k)

-- Each bound cell leads its row, and no row has a cell at or past n.
abbrev pub Echelon : {A : Type 0} → ℕ → State A → Type 0
Echelon n S = (c : ℕ) → c < n → S.bound c ≡ true → Lead (S.row c).0 c × Within n (S.row c).0

-- The cell set holds no bound cell.
abbrev pub Clear : {A : Type 0} → ℕ → State A → ℕ → Type 0
Clear n S m = (c : ℕ) → c < n → S.bound c ≡ true → has m c ≡ false

-- w is v with one set of bound rows added to it.
abbrev pub Added : {A : Type 0} → Kind A → ℕ → State A → Row A → Row A → Type 0
Added K n S v w = Comb (rows K) (rows_of S n) ((rows K).sum v w)

-- w is v reduced: v with one set of bound rows added to it, and it holds no bound cell.
abbrev pub Reduces : {A : Type 0} → Kind A → ℕ → State A → Row A → Row A → Type 0
Reduces K n S v w = Added K n S v w × Clear n S w.0

-- The state stands for the entries: it is in echelon form, and its rows have the same combinations as the entries.
abbrev pub Stands : {A : Type 0} → Kind A → ℕ → List (Row A) → State A → Type 0
Stands K n H S = Echelon n S × SameSpan (rows K) H (rows_of S n)

-- The state T is the state S with the row v put at the cell p.
abbrev pub Put : {A : Type 0} → State A → ℕ → Row A → State A → Type 0
Put S p v T = (T.bound p ≡ true) × (T.row p ≡ v) × ((c : ℕ) → ¬ (c ≡ p) → (T.bound c ≡ S.bound c) × (T.row c ≡ S.row c))

-- Two states with the same bound cells and rows below n.
abbrev pub SameBelow : {A : Type 0} → ℕ → State A → State A → Type 0
SameBelow n S T = (c : ℕ) → c < n → (T.bound c ≡ S.bound c) × (T.row c ≡ S.row c)
