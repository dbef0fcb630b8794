-- What writing promises of a draft, whatever it holds.
use Rattle.std.specs.Prelude.{◌≡◌, ℕ, List, ◌++◌, length, drop, Result, MatchResult}
use Rattle.span.specs.Marked.{Full, fulls, Marks}
use Rattle.span.specs.Blocks.{Placed}
use Rattle.shapes.specs.declared.fault.Fault.{Fault}
use Rattle.table.specs.Images.{Content, image}
use Rattle.drafts.specs.Writing.{writing, TableOf}
use Rattle.drafts.specs.Standing.{dims_of, row_count, Stands}
use Rattle.drafts.specs.declared.draft.Draft.{Draft}

-- The bytes are the image of the table of what the draft holds.
abbrev pub ImageOf : {K : Type 0} → (K → Full) → Marks fulls → Draft K → List ℕ → Type 0
ImageOf view marks d bytes = (H : List Placed) → Stands view marks d H → (t : Content) × TableOf (dims_of d) H t × (bytes ≡ image t)

-- The first bytes of the buffer are that image, of this length, and the rest is as it was.
abbrev pub Wrote : {K : Type 0} → (K → Full) → Marks fulls → Draft K → List ℕ → List ℕ → ℕ → Type 0
Wrote view marks d old new len = (bytes : List ℕ) × ImageOf view marks d bytes × (length bytes ≡ len) × (new ≡ bytes ++ drop len old)

-- Writing into a buffer: what it answers, and what it leaves there; a refusal alters nothing.
pub record WritesInto {K : Type 0} (view : K → Full) (marks : Marks fulls) (d : Draft K) (old : List ℕ) (r : Result ℕ Fault) (new : List ℕ) : Type 0 where
  pub answers : r ≡ writing (dims_of d) (row_count d) (length old)
  pub leaves : MatchResult r (Wrote view marks d old new) (λ _. new ≡ old)
