-- A run that has come to work i.
use Rattle.std.proofs.Common.{◌≡◌, ℕ, ◌+◌, ◌<◌, ◌≤◌, List, [], ◌∷◌, ◌++◌, length, get_or, take, Ok, Result, refl, sym, ◌∙◌, subst, subst₂, arith, length-append}
use Rattle.std.proofs.Math.Decide.{ℕ_discrete as dec_eq}
use Rattle.std.proofs.Math.Seq.{get_or-append_seam}
use Rattle.std.proofs.lemmas.List.{take_all, get_or_append_left}
use Rattle.span.specs.Slots.{Blame}
use Rattle.span.specs.Blocks.{Placed}
use Rattle.shapes.specs.Limits.{InLimits}
use Rattle.shapes.specs.declared.fault.Fault.{Fault}
use Rattle.runs.specs.declared.works.Outcome.{Outcome}
use Rattle.runs.specs.declared.works.Outcome.TheVariants.{Wrote}
use Rattle.runs.specs.Runs.{Deed, writes, Setting, Entering, entries, Held, Answers}
use Rattle.runs.specs.Law.{Writes, Lawful}
use Rattle.runs.specs.Steps.{Next}
use Rattle.runs.proofs.Holding.{held_none, held_take, next_exists, held_unique}
use Rattle.runs.proofs.Lawful.{lawful}

-- The first i works are done: what is held, of which P holds, and os are their answers.
pub record Sofar (blame : Blame) (S : Setting) (ds : List Deed) (os : List Outcome) (i : ℕ) (P : List Placed → Type 0)
    : Type 0 where
  pub hs : List Entering
  pub held : Held S (take i ds) hs
  pub stands : P (entries hs)
  pub count : length os ≡ i
  pub told : (j : ℕ) → j < i → (gs : List Entering) → Held S (take j ds) gs → Answers blame S gs (get_or ds j writes) (get_or os j (Wrote (Ok 0)))

module _ (blame : Blame) (S : Setting) (ds : List Deed) where
  -- before the first work
  pub sofar_none : (P : List Placed → Type 0) → P [] → Sofar blame S ds [] 0 P
  sofar_none P p = record { hs = []; held = held_none S; stands = p; count = refl; told = λ j h. absurd (omega arith) }

  -- one work more, with its answer
  pub sofar_more : (os : List Outcome) (i : ℕ) (P P' : List Placed → Type 0) → i < length ds → Sofar blame S ds os i P → (o : Outcome)
      → ((hs : List Entering) → P (entries hs) → Answers blame S hs (get_or ds i writes) o)
      → ((hs gs : List Entering) → P (entries hs) → Next S (get_or ds i writes) hs gs → P' (entries gs))
      → Sofar blame S ds (os ++ (o ∷ [])) (i + 1) P'
  sofar_more os i P P' hd so o answers next =
      let n : (gs : List Entering) × Next S (get_or ds i writes) so.hs gs =
      next_exists blame S so.hs (get_or ds i writes) o (answers so.hs so.stands) in
      record {
        hs = n.0;
        held = held_take S ds i hd so.hs n.0 so.held n.1;
        stands = next so.hs n.0 so.stands n.1;
        count = length-append os (o ∷ []) ∙ omega (arith, so.count);
        told = λ j h gs held. by j h gs held (dec_eq j i);
      }
    where
      -- the works before it keep their answers, and it has its own
      by : (j : ℕ) → j < i + 1 → (gs : List Entering) → Held S (take j ds) gs → Dec (j ≡ i)
          → Answers blame S gs (get_or ds j writes) (get_or (os ++ (o ∷ [])) j (Wrote (Ok 0)))
      by j h gs held (no ne) =
          subst (Answers blame S gs (get_or ds j writes)) (sym (get_or_append_left os (o ∷ []) (Wrote (Ok 0)) j (omega (arith, so.count)))) (so.told j (omega arith) gs held)
      by j h gs held (yes e) =
          let at : Held S (take i ds) gs = subst (λ (k : ℕ). Held S (take k ds) gs) e held in
          let here : get_or (os ++ (o ∷ [])) i (Wrote (Ok 0)) ≡ o =
          subst (λ (k : ℕ). get_or (os ++ (o ∷ [])) k (Wrote (Ok 0)) ≡ o) so.count (get_or-append_seam os o [] (Wrote (Ok 0))) in
          let same : so.hs ≡ gs = held_unique S (take i ds) so.hs gs so.held at in
          subst (λ (k : ℕ). Answers blame S gs (get_or ds k writes) (get_or (os ++ (o ∷ [])) k (Wrote (Ok 0)))) (sym e)
          (subst₂ (λ (fs : List Entering) (a : Outcome). Answers blame S fs (get_or ds i writes) a)
          same (sym here) (answers so.hs so.stands))

  -- after the last work: what is held
  pub sofar_held : (os : List Outcome) (i : ℕ) (P : List Placed → Type 0) → length ds ≤ i → (so : Sofar blame S ds os i P) → Held S ds so.hs
  sofar_held os i P all so = subst (λ (es : List Deed). Held S es so.hs) (take_all i ds all) so.held

  -- P holds of whatever is held
  pub sofar_all : (os : List Outcome) (i : ℕ) (P : List Placed → Type 0) → length ds ≤ i → Sofar blame S ds os i P → (gs : List Entering) → Held S ds gs → P (entries gs)
  sofar_all os i P all so gs held =
      subst (λ (fs : List Entering). P (entries fs)) (held_unique S ds so.hs gs (sofar_held os i P all so) held) so.stands

  -- with a writing after them the run is lawful
  pub sofar_lawful : (os : List Outcome) (i : ℕ) (P : List Placed → Type 0) → InLimits S.dims → length ds ≤ i → Sofar blame S ds os i P
      → (r : Result ℕ Fault) (buffer : List ℕ) → Writes S ds r buffer → Lawful blame S ds os r buffer
  sofar_lawful os i P limits all so r buffer =
      lawful blame S limits ds os r buffer (so.hs, sofar_held os i P all so) (λ j h. so.told j (omega arith))
