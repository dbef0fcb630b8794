-- A run whose steps note what their works answered.
use Rattle.std.proofs.Common.{◌≡◌, ℕ, ◌+◌, ◌<◌, ◌≤◌, List, [], ◌∷◌, ◌++◌, map, length, get_or, take, set, Some, Result, refl, sym, ap, ◌∙◌, subst, arith}
use Rattle.std.proofs.Math.Seq.{map-set_same}
use Rattle.std.proofs.lemmas.List.{take_all, take_more_set, map-append, length-map, get_or-map}
use Rattle.span.specs.Slots.{Blame}
use Rattle.span.specs.Marked.{Full, fulls, Marks}
use Rattle.readers.specs.Meaning.{Meaning}
use Rattle.shapes.specs.declared.fault.Fault.{Fault}
use Rattle.drafts.specs.Standing.{dims_of, row_count, Stands}
use Rattle.drafts.specs.Written.{WritesInto}
use Rattle.drafts.specs.declared.draft.Draft.{Draft}
use Rattle.runs.specs.Lending.{used_rows, works_of, RanSteps}
use Rattle.runs.specs.Runs.{deed, writes, setting}
use Rattle.runs.specs.Steps.{Performs}
use Rattle.runs.specs.declared.works.Outcome.{Outcome}
use Rattle.runs.specs.declared.works.Step.{Step}
use Rattle.runs.proofs.Turns.{Turned, turned_none, turned_more, turned_lawful, turned_rest}

-- The steps before step i are done, and have noted their outcomes.
pub record Noted {K : Type 0} (view : K → Full) (marks : Marks fulls) (blame : Blame) (m : Meaning)
    (start d : Draft K) (before steps : List Step) (i : ℕ) (old buffer : List ℕ) : Type 0 where
  pub os : List Outcome
  pub turned : Turned view marks blame m start d (works_of before) os i old buffer
  pub noted : map (λ s. s.outcome) (take i steps) ≡ map Some os
  pub works : map (λ s. s.work) steps ≡ map (λ s. s.work) before

module _ {K : Type 0} (view : K → Full) (marks : Marks fulls) (blame : Blame) (m : Meaning) (start : Draft K) (before : List Step) (old : List ℕ) where
  -- no step is done
  pub noted_none : Noted view marks blame m start start before before 0 old old
  noted_none = record {
    os = [];
    turned = turned_none view marks blame m start (works_of before) old;
    noted = refl;
    works = refl;
  }

  module _ (d : Draft K) (steps : List Step) (i : ℕ) (buffer : List ℕ) (kept : length buffer ≡ length old)
      (n : Noted view marks blame m start d before steps i old buffer) where
    -- as many steps as works
    count : length steps ≡ length (works_of before)
    count = sym (length-map steps (λ (s : Step). s.work)) ∙ (ap length n.works ∙ sym (length-map (map (λ (s : Step). s.work) before) deed))

    -- step i has the work that it had
    work_is : (z : Step) → i < length steps → deed (get_or steps i z).work ≡ get_or (works_of before) i writes
    work_is z h =
        let long : i < length (map (λ s. s.work) steps) = subst (λ k. i < k) (sym (length-map steps (λ (s : Step). s.work))) h in
        ap deed (sym (get_or-map (λ (s : Step). s.work) steps i z z.work h)) ∙ sym (get_or-map deed (map (λ s. s.work) steps) i z.work writes long) ∙ ap (λ l. get_or (map deed l) i writes) n.works

    -- one step more
    pub noted_more : (z : Step) → i < length steps → (o : Outcome) (d' : Draft K) (buffer' : List ℕ)
        → Performs view marks blame m d (deed (get_or steps i z).work) buffer o d' buffer'
        → Noted view marks blame m start d' before (set steps i (record { work = (get_or steps i z).work; outcome = Some o })) (i + 1) old buffer'
    noted_more z h o d' buffer' p = record {
      os = n.os ++ (o ∷ []);
      turned = turned_more view marks blame m start (works_of before) old d n.os i buffer kept n.turned _ (omega (arith, count)) (work_is z h) o d' buffer' p;
      noted = ap (map (λ s. s.outcome)) (take_more_set steps i _ h) ∙ (map-append (λ s. s.outcome) (take i steps) _ ∙ (ap (λ l. l ++ (Some o ∷ [])) n.noted ∙ sym (map-append Some n.os (o ∷ []))));
      works = map-set_same (λ (s : Step). s.work) steps i _ z refl ∙ n.works;
    }

    -- the writing after the last step
    pub noted_done : length steps ≤ i → (r : Result ℕ Fault) (new : List ℕ) → WritesInto view marks d buffer r new
        → (rows : ℕ) → Stands view marks start [] → row_count start ≡ used_rows (dims_of start) rows
        → RanSteps blame (setting m (dims_of start) rows (length old)) before steps r old new
    noted_done all r new w rows fresh used =
        let passed : length (works_of before) ≤ i = omega (arith, count, all) in
        record {
          outcomes = n.os;
          law = turned_lawful view marks blame m start (works_of before) old d n.os i buffer kept n.turned passed r new w rows fresh used;
          noted = ap (map (λ s. s.outcome)) (sym (take_all i steps all)) ∙ n.noted;
          works = n.works;
          rest = turned_rest view marks blame m start (works_of before) old d n.os i buffer kept n.turned passed r new w;
        }
