-- Several blocks: entries with the block that each belongs to, and fillings of all blocks.
use Rattle.std.specs.Prelude.{◌≡◌, List, [], ◌∷◌, ℕ, ◌<◌, eqb}
use Rattle.span.specs.Kinds.{Member}
use Rattle.span.specs.Echelon.{Row, put}
use Rattle.span.specs.Fillings.{Satisfies, Below}
use Rattle.span.specs.Held.{BoundBy, Fits, HeldBy}

-- An entry with its block.
abbrev pub Placed : Type 0
Placed = ℕ × Row ℕ

-- The entries of the block b, without it.
abbrev pub of : ℕ → List Placed → List (Row ℕ)
of b [] = []
of b (x ∷ H) = put (eqb x.0 b) x.1 (of b H)

-- The filling of all blocks satisfies the entry: its block's words do.
abbrev pub SatisfiesIn : ℕ → (ℕ → ℕ → ℕ) → Placed → Type 0
SatisfiesIn n g x = Satisfies n (g x.0) x.1

-- The filling satisfies each entry of the list.
abbrev pub SatisfiesEach : ℕ → (ℕ → ℕ → ℕ) → List Placed → Type 0
SatisfiesEach n g H = (x : Placed) → Member x H → SatisfiesIn n g x

-- Some filling of words of w bits satisfies all entries.
abbrev pub SolvableIn : ℕ → ℕ → List Placed → Type 0
SolvableIn w n H = (g : ℕ → ℕ → ℕ) × ((b : ℕ) → Below w (g b)) × SatisfiesEach n g H

-- What is held in all blocks after the enterings E.
abbrev pub HeldIn : ℕ → ℕ → List Placed → List Placed → Type 0
HeldIn w n E H = HeldBy (SolvableIn w n) E H

-- Each entry fits.
abbrev pub FitsIn : ℕ → ℕ → List Placed → Type 0
FitsIn w n H = (x : Placed) → Member x H → Fits w n x.1

-- The cell c of the block b is bound by the entries.
abbrev pub BoundIn : List Placed → ℕ → ℕ → Type 0
BoundIn H b c = BoundBy (of b H) c

-- The table of all blocks: g satisfies all entries and has zero in every cell of every block that they do not bind.
abbrev pub IsTableIn : ℕ → List Placed → (ℕ → ℕ → ℕ) → Type 0
IsTableIn n H g = SatisfiesEach n g H × ((b c : ℕ) → c < n → ¬ BoundIn H b c → g b c ≡ 0)
