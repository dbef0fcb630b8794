-- What entering does to a draft.
use Rattle.std.specs.Prelude.{◌≡◌, ℕ, ◌+◌, ◌*◌, List, ◌∷◌, length, take, drop, Ok, Err, Result}
use Rattle.span.specs.Slots.{Blame}
use Rattle.span.specs.Marked.{Full, fulls, Marks}
use Rattle.span.specs.Blocks.{Placed}
use Rattle.readers.specs.Meaning.{Meaning}
use Rattle.shapes.specs.declared.fault.Fault.{Fault}
use Rattle.drafts.specs.Entries.{making}
use Rattle.drafts.specs.Outcomes.{Together, Answered}
use Rattle.drafts.specs.Standing.{dims_of, records_of, row_count, slots_at, bound_at, Stands}
use Rattle.drafts.specs.declared.draft.Draft.{Draft}

-- Nothing but block b is altered: no other row, in a block or past the last, and nothing that is noted of another block.
pub record OnlyBlock {K : Type 0} (d : Draft K) (b : ℕ) (d' : Draft K) : Type 0 where
  pub shape : d'.shape ≡ d.shape
  pub rows : length (records_of d') ≡ length (records_of d)
  pub before : take (b * (dims_of d).n) (records_of d') ≡ take (b * (dims_of d).n) (records_of d)
  pub after : drop ((b + 1) * (dims_of d).n) (records_of d') ≡ drop ((b + 1) * (dims_of d).n) (records_of d)
  pub notes : (c : ℕ) → ¬ (c ≡ b) → (slots_at d'.tally c ≡ slots_at d.tally c) × (bound_at d'.tally c ≡ bound_at d.tally c)

-- What is done with the entry x, whatever H the draft holds: what is answered, what is held then, and what is altered.
pub record Holds {K : Type 0} (view : K → Full) (marks : Marks fulls) (blame : Blame)
    (d : Draft K) (x : Placed) (r : Result (ℕ × ℕ) Fault) (d' : Draft K) : Type 0 where
  pub answered : (H : List Placed) → Stands view marks d H → Answered blame (dims_of d) H x r
  pub held : (H : List Placed) → Stands view marks d H → Together (dims_of d) (x ∷ H) → Stands view marks d' (x ∷ H)
  pub refused : (f : Fault) → r ≡ Err f → d' ≡ d
  pub only : OnlyBlock d x.0 d'

-- The same by what came of the checks: a fault of one of them alters nothing.
abbrev pub Enters : {K : Type 0} → (K → Full) → Marks fulls → Blame
    → Draft K → Result Placed Fault → Result (ℕ × ℕ) Fault → Draft K → Type 0
Enters view marks blame d (Ok x) r d' = Holds view marks blame d x r d'
Enters view marks blame d (Err f) r d' = (r ≡ Err f) × (d' ≡ d)

-- The entry that a key makes in the draft with a notice number, or the fault of the first check that fails.
abbrev pub entry_in : {K : Type 0} → Meaning → Draft K → List ℕ → ℕ → Result Placed Fault
entry_in m d key notice = making m (dims_of d) (row_count d) key notice
