-- What one work does.
use Rattle.std.proofs.Common.{◌≡◌, ℕ, Bool, List, drop, Ok, Err, Result, sym, refl, ap, ◌∙◌, subst, inl, inr, MatchResult}
use Rattle.std.proofs.lemmas.List.{drop_at}
use Rattle.span.specs.Slots.{Blame}
use Rattle.span.specs.Marked.{Full, fulls, Marks}
use Rattle.span.specs.Blocks.{Placed}
use Rattle.readers.specs.Meaning.{Meaning}
use Rattle.shapes.specs.declared.fault.Fault.{Fault}
use Rattle.drafts.specs.Entries.{making}
use Rattle.drafts.specs.Outcomes.{Answered}
use Rattle.drafts.specs.Questions.{Tells}
use Rattle.drafts.specs.Standing.{dims_of, row_count, Stands}
use Rattle.drafts.specs.Entering.{Enters}
use Rattle.drafts.specs.Asking.{AskedCell}
use Rattle.drafts.specs.Written.{Wrote, WritesInto}
use Rattle.drafts.specs.declared.draft.Draft.{Draft}
use Rattle.runs.specs.Lending.{RestKept}
use Rattle.runs.specs.Runs.{enters, asks, Entering, entries, AnswersEntering}
use Rattle.runs.specs.Steps.{NextEntering, SameRoom, Performs}
use Rattle.runs.specs.declared.works.Outcome.TheVariants as outcome

pub same_room : {K : Type 0} (d : Draft K) → SameRoom d d
same_room d = record { shape = refl; rows = refl }

-- a buffer that nothing was written to
pub rest_same : (w : Result ℕ Fault) (buffer : List ℕ) → RestKept w buffer buffer
rest_same (Ok len) buffer = refl
rest_same (Err f) buffer = refl

-- a property that follows from another
tells_more : {X Y : Type 0} (o : Result X Fault) (P Q : Y → Type 0) (r : Result Y Fault) → ((y : Y) → P y → Q y) → Tells o P r → Tells o Q r
tells_more (Ok x) P Q r more (y, is, p) = (y, is, more y p)
tells_more (Err f) P Q r more e = e

module _ {K : Type 0} (view : K → Full) (marks : Marks fulls) (blame : Blame) (d d' : Draft K) where
  answers_entering : (H : List Placed) (m : Result Placed Fault) (r : Result (ℕ × ℕ) Fault) → Enters view marks blame d m r d' → Stands view marks d H
      → AnswersEntering blame (dims_of d) H m r
  answers_entering H (Ok x) r e st = e.answered H st
  answers_entering H (Err f) r e st = e.0

  -- a conflict leaves the draft as it was, and a fault before it does too
  next_entering : (key : List ℕ) (notice : ℕ) (m : Result Placed Fault) (r : Result (ℕ × ℕ) Fault) → Enters view marks blame d m r d'
      → (hs gs : List Entering) → Stands view marks d (entries hs) → NextEntering (dims_of d) key notice m hs gs → Stands view marks d' (entries gs)
  next_entering key notice (Ok x) r e hs gs st (inl (t, is)) = subst (λ (fs : List Entering). Stands view marks d' (entries fs)) (sym is) (e.held (entries hs) st t)
  next_entering key notice (Ok x) r e hs gs st (inr (t, is)) = go (e.answered (entries hs) st)
    where
      go : Answered blame (dims_of d) (entries hs) x r → Stands view marks d' (entries gs)
      go (inl (s, taken)) = absurd (t s)
      go (inr (s, (L, are, (slots, fault, to_blame)))) =
          subst (λ (fs : List Entering). Stands view marks d' (entries fs)) (sym is)
          (subst (λ (k : Draft K). Stands view marks k (entries hs)) (sym (e.refused _ fault)) st)
  next_entering key notice (Err f) r (is, same) hs gs st e =
      subst (λ (fs : List Entering). Stands view marks d' (entries fs)) (sym e) (subst (λ (k : Draft K). Stands view marks k (entries hs)) (sym same) st)

  room_entering : (m : Result Placed Fault) (r : Result (ℕ × ℕ) Fault) → Enters view marks blame d m r d' → SameRoom d d'
  room_entering (Ok x) r e = record { shape = e.only.shape; rows = e.only.rows }
  room_entering (Err f) r (is, same) = subst (SameRoom d) (sym same) (same_room d)

  pub enters_performs : (m : Meaning) (key : List ℕ) (notice : ℕ) (buffer : List ℕ) (r : Result (ℕ × ℕ) Fault)
      → Enters view marks blame d (making m (dims_of d) (row_count d) key notice) r d'
      → Performs view marks blame m d (enters key notice) buffer (outcome.Entered r) d' buffer
  enters_performs m key notice buffer r e = record {
    answers = λ hs st. (r, refl, answers_entering (entries hs) _ r e st);
    next = λ hs gs st next. next_entering key notice _ r e hs gs st next;
    room = room_entering _ r e;
    rest = rest_same _ buffer;
  }

module _ {K : Type 0} (view : K → Full) (marks : Marks fulls) (blame : Blame) (m : Meaning) (d : Draft K) where
  same_stands : (hs gs : List Entering) → Stands view marks d (entries hs) → gs ≡ hs → Stands view marks d (entries gs)
  same_stands hs gs st e = subst (λ (fs : List Entering). Stands view marks d (entries fs)) (sym e) st

  pub asks_performs : (b c : ℕ) (buffer : List ℕ) (r : Result Bool Fault) → AskedCell view marks d b c r
      → Performs view marks blame m d (asks b c) buffer (outcome.Bound r) d buffer
  asks_performs b c buffer r asked = record {
    answers = λ hs st. (r, refl, tells_more _ _ _ r (λ y p. p (entries hs) st) asked);
    next = same_stands;
    room = same_room d;
    rest = rest_same _ buffer;
  }

  -- what a writing leaves
  pub rest_written : (old : List ℕ) (r : Result ℕ Fault) (new : List ℕ) → WritesInto view marks d old r new → RestKept r old new
  rest_written old r new w = go r w.leaves
    where
      go : (q : Result ℕ Fault) → MatchResult q (Wrote view marks d old new) (λ _. new ≡ old) → RestKept q old new
      go (Ok len) (bytes, is, long, e) = ap (drop len) e ∙ drop_at bytes (drop len old) len long
      go (Err f) e = e
