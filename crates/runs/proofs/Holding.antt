-- What is held, one work after another.
use Rattle.std.proofs.Common.{◌≡◌, ℕ, ◌+◌, ◌<◌, List, [], ◌∷◌, ◌++◌, length, get_or, take, Ok, Err, Result, sym, refl, subst, inl, inr}
use Rattle.std.proofs.lemmas.List.{take_more}
use Rattle.span.specs.Slots.{Blame}
use Rattle.span.specs.Held.{HeldBy}
use Rattle.span.specs.Blocks.{Placed, HeldIn}
use Rattle.span.proofs.Once.{held_one}
use Rattle.span.proofs.Held.{held_map}
use Rattle.shapes.specs.declared.fault.Fault.{Fault}
use Rattle.drafts.specs.Entries.{answer_bits, making}
use Rattle.drafts.specs.Outcomes.{Together}
use Rattle.runs.specs.declared.works.Outcome.{Outcome}
use Rattle.runs.specs.Runs.{Deed, enters, writes, asks, counts, Setting, Entering, entries, entered_with, adds, passing, Held, AnswersEntering, Answers}
use Rattle.runs.specs.Steps.{NextEntering, Next}
use Rattle.runs.proofs.Passing.{passing_more}

-- entries that can be held together
abbrev pub Can : Setting → List Entering → Type 0
Can S E = Together S.dims (entries E)

pub held_none : (S : Setting) → Held S [] []
held_none S = refl

-- what is held after the enterings E and one work more
held_adds : (S : Setting) (d : Deed) (E hs gs : List Entering) → HeldBy (Can S) E hs → Next S d hs gs → HeldBy (Can S) (adds S d E) gs
held_adds S (enters key notice) E hs gs held next = go (making S.meaning S.dims S.rows key notice) next
  where
    go : (r : Result Placed Fault) → NextEntering S.dims key notice r hs gs → HeldBy (Can S) (entered_with key notice r E) gs
    go (Ok x) last = (hs, held, last)
    go (Err f) e = subst (HeldBy (Can S) E) (sym e) held
held_adds S writes E hs gs held e = subst (HeldBy (Can S) E) (sym e) held
held_adds S (asks b c) E hs gs held e = subst (HeldBy (Can S) E) (sym e) held
held_adds S (counts b) E hs gs held e = subst (HeldBy (Can S) E) (sym e) held

-- one work more
pub held_next : (S : Setting) (ds : List Deed) (d : Deed) (hs gs : List Entering) → Held S ds hs → Next S d hs gs → Held S (ds ++ (d ∷ [])) gs
held_next S ds d hs gs held next =
    subst (λ (E : List Entering). HeldBy (Can S) E gs) (sym (passing_more S [] ds d)) (held_adds S d (passing S [] ds) hs gs held next)

-- the same at a place of a list of works
pub held_take : (S : Setting) (ds : List Deed) (i : ℕ) → i < length ds → (hs gs : List Entering)
    → Held S (take i ds) hs → Next S (get_or ds i writes) hs gs → Held S (take (i + 1) ds) gs
held_take S ds i h hs gs held next =
    subst (λ (es : List Deed). Held S es gs) (sym (take_more ds i writes h)) (held_next S (take i ds) (get_or ds i writes) hs gs held next)

-- the outcome tells what is held next
pub next_exists : (blame : Blame) (S : Setting) (hs : List Entering) (d : Deed) (o : Outcome)
    → Answers blame S hs d o → (gs : List Entering) × Next S d hs gs
next_exists blame S hs (enters key notice) o (r, e, answers) = go (making S.meaning S.dims S.rows key notice) answers
  where
    go : (p : Result Placed Fault) → AnswersEntering blame S.dims (entries hs) p r → (gs : List Entering) × NextEntering S.dims key notice p hs gs
    go (Ok x) (inl (can, taken)) = (record { key = key; notice = notice; entry = x } ∷ hs, inl (can, refl))
    go (Ok x) (inr (cannot, conflict)) = (hs, inr (cannot, refl))
    go (Err f) q = (hs, refl)
next_exists blame S hs writes o a = (hs, refl)
next_exists blame S hs (asks b c) o a = (hs, refl)
next_exists blame S hs (counts b) o a = (hs, refl)

-- one list is held
pub held_unique : (S : Setting) (ds : List Deed) (hs gs : List Entering) → Held S ds hs → Held S ds gs → hs ≡ gs
held_unique S ds hs gs = held_one (Can S) (passing S [] ds) hs gs

-- the entries held are what the entries that pass make the blocks hold
pub held_in : (S : Setting) (ds : List Deed) (hs : List Entering) → Held S ds hs
    → HeldIn (answer_bits S.dims) S.dims.n (entries (passing S [] ds)) (entries hs)
held_in S ds hs = held_map (λ (e : Entering). e.entry) (Together S.dims) (passing S [] ds) hs
