-- A run, one work after another, and the writing that closes it.
use Rattle.std.proofs.Common.{◌≡◌, ℕ, ◌+◌, ◌<◌, ◌≤◌, List, [], ◌∷◌, ◌++◌, length, get_or, take, drop, Ok, Err, Result, sym, ap, ◌∙◌, subst, MatchResult}
use Rattle.std.proofs.lemmas.List.{take_at}
use Rattle.span.specs.Slots.{Blame}
use Rattle.span.specs.Marked.{Full, fulls, Marks}
use Rattle.readers.specs.Meaning.{Meaning}
use Rattle.shapes.specs.declared.fault.Fault.{Fault}
use Rattle.shapes.specs.declared.shape.Shape.{Shape}
use Rattle.shapes.proofs.Limits.{shape_limits}
use Rattle.table.specs.Images.{Content, image}
use Rattle.drafts.specs.Standing.{dims_of, row_count, Stands}
use Rattle.drafts.specs.Written.{Wrote, WritesInto}
use Rattle.drafts.specs.Writing.{writing, TableOf}
use Rattle.drafts.specs.declared.draft.Draft.{Draft}
use Rattle.runs.specs.Lending.{RestKept, used_rows}
use Rattle.runs.specs.Runs.{Deed, writes, Setting, setting, Entering, entries, Held, Answers}
use Rattle.runs.specs.Law.{Writes, Lawful}
use Rattle.runs.specs.Steps.{Next, setting_of, SameRoom, Performs}
use Rattle.runs.specs.declared.works.Outcome.{Outcome}
use Rattle.runs.proofs.Performing.{same_room, rest_same, rest_written}
use Rattle.runs.proofs.Sofar.{Sofar, sofar_none, sofar_more, sofar_all, sofar_lawful}
use Rattle.runs.proofs.Used.{used_lawful}

-- what is kept by one work and then by another
pub rest_trans : (w : Result ℕ Fault) (a b c : List ℕ) → RestKept w a b → RestKept w b c → RestKept w a c
rest_trans (Ok len) a b c p q = q ∙ p
rest_trans (Err f) a b c p q = q ∙ p

module _ {K : Type 0} where
  pub room_trans : (a b c : Draft K) → SameRoom a b → SameRoom b c → SameRoom a c
  room_trans a b c p q = record {
    shape = q.shape ∙ p.shape;
    rows = q.rows ∙ p.rows;
  }

  -- the draft goes by the same setting as the one that was opened
  pub same_setting : (m : Meaning) (a b : Draft K) (j k : ℕ) → SameRoom a b → j ≡ k → setting_of m b j ≡ setting_of m a k
  same_setting m a b j k room e i = record { meaning = m; dims = (room.shape i).dims; rows = room.rows i; room = e i }

-- The works before work i are done and os are their answers, on a draft that began as `start` and is d now, with a buffer that began as `old`.
pub record Turned {K : Type 0} (view : K → Full) (marks : Marks fulls) (blame : Blame) (m : Meaning)
    (start d : Draft K) (ds : List Deed) (os : List Outcome) (i : ℕ) (old buffer : List ℕ) : Type 0 where
  pub so : Stands view marks start [] → Sofar blame (setting_of m start (length old)) ds os i (Stands view marks d)
  pub room : SameRoom start d
  pub rest : RestKept (writing (dims_of start) (row_count start) (length old)) old buffer

module _ {K : Type 0} (view : K → Full) (marks : Marks fulls) (blame : Blame) (m : Meaning) (start : Draft K) (ds : List Deed) (old : List ℕ) where
  -- no work is done
  pub turned_none : Turned view marks blame m start start ds [] 0 old old
  turned_none = record {
    so = λ fresh. sofar_none blame (setting_of m start (length old)) ds (Stands view marks start) fresh;
    room = same_room start;
    rest = rest_same _ old;
  }

  module _ (d : Draft K) (os : List Outcome) (i : ℕ) (buffer : List ℕ) (kept : length buffer ≡ length old)
      (t : Turned view marks blame m start d ds os i old buffer) where
    abbrev S : Setting
    S = setting_of m start (length old)

    setting_is : setting_of m d (length buffer) ≡ S
    setting_is = same_setting m start d (length buffer) (length old) t.room kept

    -- one work more
    pub turned_more : (work : Deed) → i < length ds → work ≡ get_or ds i writes → (o : Outcome) (d' : Draft K) (buffer' : List ℕ)
        → Performs view marks blame m d work buffer o d' buffer'
        → Turned view marks blame m start d' ds (os ++ (o ∷ [])) (i + 1) old buffer'
    turned_more work h is o d' buffer' p = record {
      so = λ fresh.
          sofar_more blame S ds os i (Stands view marks d) (Stands view marks d') h (t.so fresh) o
          (λ hs st. subst (λ (e : Deed). Answers blame S hs e o) is (subst (λ (T : Setting). Answers blame T hs work o) setting_is (p.answers hs st)))
          (λ hs gs st next. p.next hs gs st
          (subst (λ (T : Setting). Next T work hs gs) (sym setting_is) (subst (λ (e : Deed). Next S e hs gs) (sym is) next)));
      room = room_trans start d d' t.room p.room;
      rest = rest_trans _ old buffer buffer' t.rest (subst (λ (T : Setting). RestKept (writing T.dims T.rows T.room) buffer buffer') setting_is p.rest);
    }

    -- the writing after the last work
    module _ (all : length ds ≤ i) (r : Result ℕ Fault) (new : List ℕ) (w : WritesInto view marks d buffer r new) where
      answer_is : r ≡ writing (dims_of start) (row_count start) (length old)
      answer_is = w.answers ∙ ap (λ (T : Setting). writing T.dims T.rows T.room) setting_is

      close : Stands view marks start [] → Writes S ds r new
      close fresh = record {
        answers = answer_is;
        table = λ hs held len is. go hs held len (subst (λ (q : Result ℕ Fault). MatchResult q (Wrote view marks d buffer new) (λ _. new ≡ buffer)) is w.leaves);
      }
        where
          go : (hs : List Entering) → Held S ds hs → (len : ℕ) → Wrote view marks d buffer new len
              → (t : Content) × TableOf (dims_of start) (entries hs) t × (take len new ≡ image t)
          go hs held len (bytes, image_of, long, e) =
              let c = image_of (entries hs) (sofar_all blame S ds os i (Stands view marks d) all (t.so fresh) hs held) in (
                c.0,
                subst (λ (s : Shape). TableOf s.dims (entries hs) c.0) t.room.shape c.1,
                ap (take len) e ∙ (take_at bytes (drop len buffer) len long ∙ c.2),
              )

      -- it is lawful on any number of rows of which a draft uses just these
      pub turned_lawful : (rows : ℕ) → Stands view marks start [] → row_count start ≡ used_rows (dims_of start) rows
          → Lawful blame (setting m (dims_of start) rows (length old)) ds os r new
      turned_lawful rows fresh used =
          used_lawful m (dims_of start) (row_count start) rows (length old) (shape_limits start.shape) used blame ds os r new
          (sofar_lawful blame S ds os i (Stands view marks d) (shape_limits start.shape) all (t.so fresh) r new (close fresh))

      pub turned_rest : RestKept r old new
      turned_rest =
          rest_trans r old buffer new (subst (λ (q : Result ℕ Fault). RestKept q old buffer) (sym answer_is) t.rest)
          (rest_written view marks blame m d buffer r new w)
