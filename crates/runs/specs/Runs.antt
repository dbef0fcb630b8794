-- Lists of works on one draft: what is held after them, and what each answers.
use Rattle.std.specs.Prelude.{◌≡◌, ℕ, Bool, List, [], ◌∷◌, map, Ok, Err, Result}
use Rattle.span.specs.Slots.{Blame}
use Rattle.span.specs.Held.{HeldBy}
use Rattle.span.specs.Blocks.{Placed}
use Rattle.readers.specs.Meaning.{Meaning}
use Rattle.shapes.specs.declared.fault.Fault.{Fault}
use Rattle.shapes.specs.declared.shape.Dims.{Dims}
use Rattle.drafts.specs.Entries.{making}
use Rattle.drafts.specs.Outcomes.{Together, Answered}
use Rattle.drafts.specs.Questions.{TellsBound, TellsCount}
use Rattle.drafts.specs.Writing.{writing}
use Rattle.runs.specs.declared.works.Work.{Work}
use Rattle.runs.specs.declared.works.Work.TheVariants as work
use Rattle.runs.specs.declared.works.Outcome.{Outcome}
use Rattle.runs.specs.declared.works.Outcome.TheVariants.{Entered, Wrote, Bound, Counted}

-- A work: to enter a key with a notice number, to write, to ask whether a cell is bound, to ask how many of a block are.
pub data Deed : Type 0 where
  enters : List ℕ → ℕ → Deed
  writes : Deed
  asks : ℕ → ℕ → Deed
  counts : ℕ → Deed

-- What the code's work stands for.
abbrev pub deed : Work → Deed
deed (work.Enter key notice) = enters key.now notice
deed work.Write = writes
deed (work.Bound b c) = asks b c
deed (work.Count b) = counts b

-- What a run goes by: the reader's meaning, the shape, the number of rows lent, and the bytes of the buffer.
pub record Setting : Type 0 where
  pub meaning : Meaning
  pub dims : Dims
  pub rows : ℕ
  pub room : ℕ

-- A setting of these four.
abbrev pub setting : Meaning → Dims → ℕ → ℕ → Setting
setting m d rows room = record { meaning = m; dims = d; rows = rows; room = room }

-- A key entered with a notice number, and the entry that they make.
pub record Entering : Type 0 where
  pub key : List ℕ
  pub notice : ℕ
  pub entry : Placed

-- The entries of enterings.
abbrev pub entries : List Entering → List Placed
entries E = map (λ e. e.entry) E

-- An entering put before others, where the checks made an entry of it.
abbrev pub entered_with : List ℕ → ℕ → Result Placed Fault → List Entering → List Entering
entered_with key notice (Ok x) E = record { key = key; notice = notice; entry = x } ∷ E
entered_with key notice (Err f) E = E

-- A refused call, a writing and a question add none.
abbrev pub adds : Setting → Deed → List Entering → List Entering
adds S (enters key notice) E = entered_with key notice (making S.meaning S.dims S.rows key notice) E
adds S writes E = E
adds S (asks b c) E = E
adds S (counts b) E = E

-- The enterings of a list of works that pass the checks before the last, the newest first, put before those of earlier works.
abbrev pub passing : Setting → List Entering → List Deed → List Entering
passing S E [] = E
passing S E (d ∷ ds) = passing S (adds S d E) ds

-- What is held after the works: nothing at first; of the enterings that pass, each that some filling satisfies with all that is held.
abbrev pub Held : Setting → List Deed → List Entering → Type 0
Held S ds hs = HeldBy (λ E. Together S.dims (entries E)) (passing S [] ds) hs

-- What entering answers, by the entry that is made: the fault of an earlier check, or taken or a conflict by what is held.
abbrev pub AnswersEntering : Blame → Dims → List Placed → Result Placed Fault → Result (ℕ × ℕ) Fault → Type 0
AnswersEntering blame d H (Ok x) r = Answered blame d H x r
AnswersEntering blame d H (Err f) r = r ≡ Err f

-- What a work answers where hs is held.
abbrev pub Answers : Blame → Setting → List Entering → Deed → Outcome → Type 0
Answers blame S hs (enters key notice) o =
    (r : Result (ℕ × ℕ) Fault) × (o ≡ Entered r) × AnswersEntering blame S.dims (entries hs) (making S.meaning S.dims S.rows key notice) r
Answers blame S hs writes o = o ≡ Wrote (writing S.dims S.rows S.room)
Answers blame S hs (asks b c) o = (r : Result Bool Fault) × (o ≡ Bound r) × TellsBound S.dims S.rows (entries hs) b c r
Answers blame S hs (counts b) o = (r : Result ℕ Fault) × (o ≡ Counted r) × TellsCount S.dims S.rows (entries hs) b r
