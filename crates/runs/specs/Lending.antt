-- What a run does to the memory that is lent to it.
use Rattle.std.specs.Prelude.{◌≡◌, ℕ, ◌<◌, cond, List, map, length, drop, Some, Ok, Err, Result, nat_le}
use Rattle.span.specs.Slots.{Blame}
use Rattle.readers.specs.Meaning.{Meaning}
use Rattle.shapes.specs.declared.fault.Fault.{Fault}
use Rattle.shapes.specs.declared.shape.Dims.{Dims}
use Rattle.table.specs.Sizes.{cell_count}
use Rattle.runs.specs.Runs.{Deed, deed, Setting, setting}
use Rattle.runs.specs.Law.{Lawful}
use Rattle.runs.specs.declared.works.Outcome.{Outcome}
use Rattle.runs.specs.declared.works.Step.{Step}

-- Past the image, or everywhere where no image can be written, the buffer is as it was.
abbrev pub RestKept : Result ℕ Fault → List ℕ → List ℕ → Type 0
RestKept (Ok len) old new = drop len new ≡ drop len old
RestKept (Err f) old new = new ≡ old

-- The rows that a draft uses: one for each cell, or none where there are too few.
abbrev pub used_rows : Dims → ℕ → ℕ
used_rows d rows = cond (nat_le (cell_count d) rows) (cell_count d) 0

-- The other rows are as they were.
abbrev pub RowsKept : {R : Type 0} → Dims → List R → List R → Type 0
RowsKept d old new = drop (used_rows d (length old)) new ≡ drop (used_rows d (length old)) old

-- What is lent for a run: rows, room for the outcomes, and a buffer for the image.
pub record Lent (R : Type 0) : Type 0 where
  pub rows : List R
  pub outcomes : List Outcome
  pub buffer : List ℕ

-- These three, lent.
abbrev pub lent : {R : Type 0} → List R → List Outcome → List ℕ → Lent R
lent rows outcomes buffer = record { rows = rows; outcomes = outcomes; buffer = buffer }

-- A run of the works, and a writing that answered w: it is lawful, and but for what the run is there to write, what was lent is as it was.
pub record Ran {R : Type 0} (blame : Blame) (m : Meaning) (d : Dims) (ds : List Deed) (old : Lent R) (w : Result ℕ Fault) (new : Lent R) : Type 0 where
  pub law : Lawful blame (setting m d (length old.rows) (length old.buffer)) ds new.outcomes w new.buffer
  pub outcomes : drop (length ds) new.outcomes ≡ drop (length ds) old.outcomes
  pub rows : RowsKept d old.rows new.rows
  pub buffer : RestKept w old.buffer new.buffer

-- The outcomes of so many works have no room, and nothing was done.
abbrev pub NoRoom : {R : Type 0} → ℕ → Lent R → Lent R → Type 0
NoRoom count old new = (length old.outcomes < count) × (new ≡ old)

-- The works of steps.
abbrev pub works_of : List Step → List Deed
works_of steps = map deed (map (λ s. s.work) steps)

-- A run of the steps, and a writing that answered w: it is lawful, each step has its work still and now the outcome,
-- and the buffer is as it was past the image.
pub record RanSteps (blame : Blame) (S : Setting) (old new : List Step) (w : Result ℕ Fault) (buffer buffer' : List ℕ) : Type 0 where
  pub outcomes : List Outcome
  pub law : Lawful blame S (works_of old) outcomes w buffer'
  pub noted : map (λ s. s.outcome) new ≡ map Some outcomes
  pub works : map (λ s. s.work) new ≡ map (λ s. s.work) old
  pub rest : RestKept w buffer buffer'
