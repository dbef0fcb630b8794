-- The steps of a run, as its parts promise them to each other.
use Rattle.std.specs.Prelude.{◌≡◌, ℕ, ◌⊎◌, List, [], ◌∷◌, length, drop, Ok, Err, Result}
use Rattle.span.specs.Slots.{Blame}
use Rattle.span.specs.Marked.{Full, fulls, Marks}
use Rattle.span.specs.Blocks.{Placed}
use Rattle.readers.specs.Meaning.{Meaning}
use Rattle.shapes.specs.declared.fault.Fault.{Fault}
use Rattle.shapes.specs.declared.shape.Dims.{Dims}
use Rattle.drafts.specs.Entries.{making}
use Rattle.drafts.specs.Outcomes.{Together}
use Rattle.drafts.specs.Standing.{dims_of, row_count, Stands}
use Rattle.drafts.specs.Writing.{writing}
use Rattle.drafts.specs.declared.draft.Draft.{Draft}
use Rattle.runs.specs.Lending.{RestKept, used_rows, RanSteps}
use Rattle.runs.specs.Runs.{Deed, enters, writes, asks, counts, Setting, setting, Entering, entries, Answers}
use Rattle.runs.specs.Law.{Lawful}
use Rattle.runs.specs.declared.works.Outcome.{Outcome}
use Rattle.runs.specs.declared.works.Step.{Step}

-- What is held after an entering that made the entry, or none
abbrev pub NextEntering : Dims → List ℕ → ℕ → Result Placed Fault → List Entering → List Entering → Type 0
NextEntering d key notice (Ok x) hs gs =
    (Together d (x ∷ entries hs) × (gs ≡ record { key = key; notice = notice; entry = x } ∷ hs)) ⊎ ((¬ Together d (x ∷ entries hs)) × (gs ≡ hs))
NextEntering d key notice (Err f) hs gs = gs ≡ hs

-- gs is held after the work where hs was held before it
abbrev pub Next : Setting → Deed → List Entering → List Entering → Type 0
Next S (enters key notice) hs gs = NextEntering S.dims key notice (making S.meaning S.dims S.rows key notice) hs gs
Next S writes hs gs = gs ≡ hs
Next S (asks b c) hs gs = gs ≡ hs
Next S (counts b) hs gs = gs ≡ hs

-- The setting of a run on this draft.
abbrev pub setting_of : {K : Type 0} → Meaning → Draft K → ℕ → Setting
setting_of m d room = setting m (dims_of d) (row_count d) room

-- The draft has its shape and its number of rows still.
pub record SameRoom {K : Type 0} (d d' : Draft K) : Type 0 where
  pub shape : d'.shape ≡ d.shape
  pub rows : row_count d' ≡ row_count d

-- What one work does to a draft and a buffer: what it answers, and what is held and kept then.
pub record Performs {K : Type 0} (view : K → Full) (marks : Marks fulls) (blame : Blame) (m : Meaning)
    (d : Draft K) (deed : Deed) (old : List ℕ) (o : Outcome) (d' : Draft K) (new : List ℕ) : Type 0 where
  pub answers : (hs : List Entering) → Stands view marks d (entries hs) → Answers blame (setting_of m d (length old)) hs deed o
  pub next : (hs gs : List Entering) → Stands view marks d (entries hs) → Next (setting_of m d (length old)) deed hs gs → Stands view marks d' (entries gs)
  pub room : SameRoom d d'
  pub rest : RestKept (writing (dims_of d) (row_count d) (length old)) old new

-- Steps and the writing after them, on a draft that held nothing: a run on any number of rows of which a draft uses just these.
pub record Turns {K : Type 0} (view : K → Full) (marks : Marks fulls) (blame : Blame) (m : Meaning)
    (d : Draft K) (old : List Step) (buffer : List ℕ) (w : Result ℕ Fault) (new : List Step) (buffer' : List ℕ) : Type 0 where
  pub fresh : (rows : ℕ) → Stands view marks d [] → row_count d ≡ used_rows (dims_of d) rows → RanSteps blame (setting m (dims_of d) rows (length buffer)) old new w buffer buffer'

-- The same of works with the outcomes apart from them; the outcomes past the works are as they were.
pub record TurnsApart {K : Type 0} (view : K → Full) (marks : Marks fulls) (blame : Blame) (m : Meaning)
    (d : Draft K) (ds : List Deed) (old : List Outcome) (buffer : List ℕ) (w : Result ℕ Fault) (new : List Outcome) (buffer' : List ℕ) : Type 0 where
  pub fresh : (rows : ℕ) → Stands view marks d [] → row_count d ≡ used_rows (dims_of d) rows
      → Lawful blame (setting m (dims_of d) rows (length buffer)) ds new w buffer'
  pub outcomes : drop (length ds) new ≡ drop (length ds) old
  pub rest : RestKept w buffer buffer'
