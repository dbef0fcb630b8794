-- Slots: the entries that made a cell bound, the newest first. The first of the list has the highest number, the last has 0.
use Rattle.std.specs.Prelude.{◌≡◌, Bool, true, false, List, [], ◌∷◌, length, ℕ}
use Rattle.span.specs.Sets.{has, Within}
use Rattle.span.specs.Kinds.{numbers, Comb}
use Rattle.span.specs.Echelon.{Row, rows}

-- A row added, or not.
abbrev pub add_if : Bool → Row ℕ → Row ℕ → Row ℕ
add_if true e v = (rows numbers).sum e v
add_if false e v = v

-- The sum of the entries in the slots of a set.
abbrev pub chosen : List (Row ℕ) → ℕ → Row ℕ
chosen [] t = (0, 0)
chosen (e ∷ L) t = add_if (has t (length L)) e (chosen L t)

-- No cell set of the list is a combination of those that come after it.
abbrev pub Apart : List ℕ → Type 0
Apart [] = Unit {0}
Apart (m ∷ M) = (¬ Comb numbers M m) × Apart M

-- What a set of slots has to do with an entry in conflict, said of the entries in the slots, the entry and the set.
abbrev pub Blame : Type 1
Blame = List (Row ℕ) → Row ℕ → ℕ → Type 0

-- t is to blame for the conflict of e: the cell sets in its slots sum to the entry's cell set, while their answers sum to something else.
abbrev pub ConflictSet : List (Row ℕ) → Row ℕ → ℕ → Type 0
ConflictSet L e t = Within (length L) t × ((chosen L t).0 ≡ e.0) × (¬ ((chosen L t).1 ≡ e.1))
