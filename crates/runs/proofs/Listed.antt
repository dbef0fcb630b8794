-- A run with its outcomes apart: the first of them list what the works answered.
use Rattle.std.proofs.Common.{◌≡◌, ℕ, ◌+◌, ◌<◌, ◌≤◌, List, length, get_or, take, drop, set, Result, refl, sym, ◌∙◌, subst}
use Rattle.std.proofs.lemmas.List.{take_more_set, drop-set-lt}
use Rattle.span.specs.Slots.{Blame}
use Rattle.span.specs.Marked.{Full, fulls, Marks}
use Rattle.readers.specs.Meaning.{Meaning}
use Rattle.shapes.specs.declared.fault.Fault.{Fault}
use Rattle.shapes.proofs.Limits.{shape_limits}
use Rattle.drafts.specs.Standing.{dims_of}
use Rattle.drafts.specs.Written.{WritesInto}
use Rattle.drafts.specs.declared.draft.Draft.{Draft}
use Rattle.runs.specs.Runs.{Deed, writes, setting}
use Rattle.runs.specs.Steps.{Performs, TurnsApart}
use Rattle.runs.specs.declared.works.Outcome.{Outcome}
use Rattle.runs.proofs.Lawful.{lawful_first}
use Rattle.runs.proofs.Turns.{Turned, turned_none, turned_more, turned_lawful, turned_rest}

-- The works before work i are done, the first i outcomes list their answers, and those past the works are as they were.
pub record Listed {K : Type 0} (view : K → Full) (marks : Marks fulls) (blame : Blame) (m : Meaning)
    (start d : Draft K) (ds : List Deed) (before os : List Outcome) (i : ℕ) (old buffer : List ℕ) : Type 0 where
  pub turned : Turned view marks blame m start d ds (take i os) i old buffer
  pub past : drop (length ds) os ≡ drop (length ds) before

module _ {K : Type 0} (view : K → Full) (marks : Marks fulls) (blame : Blame) (m : Meaning)
    (start : Draft K) (ds : List Deed) (before : List Outcome) (old : List ℕ) where
  -- no work is done
  pub listed_none : Listed view marks blame m start start ds before before 0 old old
  listed_none = record {
    turned = turned_none view marks blame m start ds old;
    past = refl;
  }

  module _ (d : Draft K) (os : List Outcome) (i : ℕ) (buffer : List ℕ) (kept : length buffer ≡ length old)
      (a : Listed view marks blame m start d ds before os i old buffer) where
    -- one work more
    pub listed_more : (work : Deed) → i < length ds → i < length os → work ≡ get_or ds i writes → (o : Outcome) (d' : Draft K) (buffer' : List ℕ)
        → Performs view marks blame m d work buffer o d' buffer'
        → Listed view marks blame m start d' ds before (set os i o) (i + 1) old buffer'
    listed_more work h room is o d' buffer' p = record {
      turned = subst (λ (l : List Outcome). Turned view marks blame m start d' ds l (i + 1) old buffer') (sym (take_more_set os i o room))
          (turned_more view marks blame m start ds old d (take i os) i buffer kept a.turned work h is o d' buffer' p);
      past = drop-set-lt (length ds) os i o h ∙ a.past;
    }

    -- the writing after the last work
    pub listed_done : length ds ≤ i → (r : Result ℕ Fault) (new : List ℕ) → WritesInto view marks d buffer r new
        → TurnsApart view marks blame m start ds before old r os new
    listed_done all r new w = record {
      fresh = λ rows fresh used. lawful_first blame (setting m (dims_of start) rows (length old)) (shape_limits start.shape) ds os i all r new
          (turned_lawful view marks blame m start ds old d (take i os) i buffer kept a.turned all r new w rows fresh used);
      outcomes = a.past;
      rest = turned_rest view marks blame m start ds old d (take i os) i buffer kept a.turned all r new w;
    }
