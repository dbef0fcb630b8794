-- A run on the rows that its draft uses is one on all that are lent: what is answered goes by whether they are enough.
use Rattle.std.proofs.Common.{◌≡◌, ℕ, ◌≤◌, Bool, true, false, cond, ltb, leb, List, [], ◌∷◌, get_or, take, Ok, Err, Result, sym, refl, ap, ◌∙◌, subst, arith}
use Rattle.std.proofs.Math.Nat.{one-le-mul}
use Rattle.std.proofs.lemmas.Bool.{le-leb, lt-leb}
use Rattle.span.specs.Slots.{Blame}
use Rattle.span.specs.Held.{HeldBy}
use Rattle.span.specs.Blocks.{Placed}
use Rattle.span.specs.Held.{CountBound}
use Rattle.span.specs.Blocks.{of}
use Rattle.readers.specs.Meaning.{Meaning, read_for}
use Rattle.shapes.specs.Limits.{InLimits}
use Rattle.shapes.specs.Results.{and_then}
use Rattle.shapes.specs.declared.fault.Caller.TheVariants.{Draft}
use Rattle.shapes.specs.declared.fault.Fault.{Fault}
use Rattle.shapes.specs.declared.fault.Fault.TheVariants.{FewRows, NoBlock, NoCell, ShortBuffer}
use Rattle.shapes.specs.declared.shape.Dims.{Dims}
use Rattle.table.specs.Sizes.{cell_count, image_length}
use Rattle.drafts.specs.Entries.{with_rows, notice_in, entry_of, making}
use Rattle.drafts.specs.Outcomes.{Together}
use Rattle.drafts.specs.Questions.{Tells, SaysBound}
use Rattle.drafts.specs.Writing.{writing}
use Rattle.runs.specs.Lending.{used_rows}
use Rattle.runs.specs.Runs.{Deed, enters, writes, asks, counts, setting, Entering, entries, entered_with, adds, passing, Held, AnswersEntering, Answers}
use Rattle.runs.specs.Law.{Lawful}
use Rattle.runs.specs.declared.works.Outcome.{Outcome}
use Rattle.runs.specs.declared.works.Outcome.TheVariants.{Wrote}
use Rattle.runs.proofs.Lawful.{lawful}

module _ (m : Meaning) (d : Dims) (a b room : ℕ) (same : with_rows d a ≡ with_rows d b) where
  making_same : (key : List ℕ) (notice : ℕ) → making m d a key notice ≡ making m d b key notice
  making_same key notice i = and_then (same i) (λ _. and_then (read_for m Draft d key) (λ c. and_then (notice_in d notice) (λ x. Ok (entry_of d c x))))

  writing_same : writing d a room ≡ writing d b room
  writing_same i = and_then (same i) (λ _. cond (leb (image_length d) room) (Ok (image_length d)) (Err (ShortBuffer (image_length d))))

  adds_same : (k : Deed) (E : List Entering) → adds (setting m d a room) k E ≡ adds (setting m d b room) k E
  adds_same (enters key notice) E = ap (λ (r : Result Placed Fault). entered_with key notice r E) (making_same key notice)
  adds_same writes E = refl
  adds_same (asks x c) E = refl
  adds_same (counts x) E = refl

  passing_same : (ds : List Deed) (E : List Entering) → passing (setting m d a room) E ds ≡ passing (setting m d b room) E ds
  passing_same [] E = refl
  passing_same (k ∷ ds) E = ap (λ (F : List Entering). passing (setting m d a room) F ds) (adds_same k E) ∙ passing_same ds (adds (setting m d b room) k E)

  held_same : (ds : List Deed) (hs : List Entering) → Held (setting m d a room) ds hs ≡ Held (setting m d b room) ds hs
  held_same ds hs i = HeldBy (λ E. Together d (entries E)) (passing_same ds [] i) hs

  answers_same : (blame : Blame) (hs : List Entering) (k : Deed) (o : Outcome)
      → Answers blame (setting m d a room) hs k o → Answers blame (setting m d b room) hs k o
  answers_same blame hs (enters key notice) o (r, is, t) =
      (r, is, subst (λ (q : Result Placed Fault). AnswersEntering blame d (entries hs) q r) (making_same key notice) t)
  answers_same blame hs writes o is = is ∙ ap Wrote writing_same
  answers_same blame hs (asks x c) o (r, is, t) = (
    r,
    is,
    subst (λ (q : Result Dims Fault).
        Tells (and_then (and_then q (λ _. cond (ltb x d.b) (Ok x) (Err NoBlock))) (λ _. cond (ltb c d.n) (Ok c) (Err NoCell))) (SaysBound (entries hs) x c) r)
        same t,
  )
  answers_same blame hs (counts x) o (r, is, t) = (
    r,
    is,
    subst (λ (q : Result Dims Fault). Tells (and_then q (λ _. cond (ltb x d.b) (Ok x) (Err NoBlock))) (CountBound (of x (entries hs)) d.n) r) same t,
  )

  pub lawful_same : (blame : Blame) → InLimits d → (ds : List Deed) (os : List Outcome) (r : Result ℕ Fault) (buffer : List ℕ)
      → Lawful blame (setting m d a room) ds os r buffer → Lawful blame (setting m d b room) ds os r buffer
  lawful_same blame limits ds os r buffer law =
      lawful blame (setting m d b room) limits ds os r buffer
      (law.held.0, subst (λ T. T) (held_same ds law.held.0) law.held.1)
      (λ i h hs held. answers_same blame hs (get_or ds i writes) (get_or os i (Wrote (Ok 0))) (law.answered i h hs (subst (λ T. T) (sym (held_same (take i ds) hs)) held)))
      (record {
        answers = law.written.answers ∙ writing_same;
        table = λ hs held len is. law.written.table hs (subst (λ T. T) (sym (held_same ds hs)) held) len is;
      })

-- the rows that are used are enough where all are
pub used_same : (d : Dims) (rows : ℕ) → InLimits d → with_rows d (used_rows d rows) ≡ with_rows d rows
used_same d rows limits = go (leb (cell_count d) rows)
  where
    told : Bool → Result Dims Fault
    told t = cond t (Ok d) (Err (FewRows (cell_count d)))

    some : 1 ≤ cell_count d
    some = one-le-mul limits.b_low limits.n_low

    go : (t : Bool) → with_rows d (cond t (cell_count d) 0) ≡ told t
    go true = ap told (le-leb (cell_count d) (cell_count d) (omega arith))
    go false = ap told (lt-leb (cell_count d) 0 some)

-- a run on the rows that a draft uses is one on all that are lent
pub used_lawful : (m : Meaning) (d : Dims) (used rows room : ℕ) → InLimits d → used ≡ used_rows d rows
    → (blame : Blame) (ds : List Deed) (os : List Outcome) (r : Result ℕ Fault) (buffer : List ℕ)
    → Lawful blame (setting m d used room) ds os r buffer → Lawful blame (setting m d rows room) ds os r buffer
used_lawful m d used rows room limits is blame = lawful_same m d used rows room (ap (with_rows d) is ∙ used_same d rows limits) blame limits
