-- What is noted as bound, and as many slots, is what the held entries bind.
use Rattle.std.proofs.Common.{◌≡◌, ℕ, ◌<◌, Bool, List, Ok, Result, refl, sym, ◌∙◌, subst}
use Rattle.std.proofs.lemmas.Bool.{lt-ltb, cond-true}
use Rattle.span.specs.Sets.{has}
use Rattle.span.specs.Held.{CountBound}
use Rattle.span.specs.Marked.{Full, fulls, Marks}
use Rattle.span.specs.Kinds.{numbers}
use Rattle.span.specs.Blocks.{Placed, of}
use Rattle.span.proofs.Marked.{words_stand, slots_count_bound}
use Rattle.span.proofs.Theorems.{bound_is_bound}
use Rattle.shapes.specs.declared.fault.Fault.{Fault}
use Rattle.drafts.specs.Questions.{cell_of_block, Tells, SaysBound}
use Rattle.drafts.specs.Asking.{BoundInDraft}
use Rattle.drafts.specs.Standing.{slots_at, bound_at, dims_of, block_state, Stands}
use Rattle.drafts.specs.declared.draft.Draft.{Draft}

module _ {K : Type 0} (view : K → Full) (marks : Marks fulls) (d : Draft K) (H : List Placed) (st : Stands view marks d H) (b : ℕ) (h : b < (dims_of d).b) where
  says_bound : (c : ℕ) → c < (dims_of d).n → (answer : Bool) → answer ≡ has (bound_at d.tally b) c → SaysBound H b c answer
  says_bound c hc answer is =
      let B = st.blocks b h in
      let n = (dims_of d).n in
      let by = bound_is_bound numbers n (of b H) _ (words_stand marks n (of b H) B.in_slots (block_state view d b) B.stands) c in
      (λ t. by.0 (hc, sym is ∙ t), λ bound. is ∙ (by.1 bound).1)

  pub says_count : (count : ℕ) → count ≡ slots_at d.tally b → CountBound (of b H) (dims_of d).n count
  says_count count is =
      let B = st.blocks b h in
      subst (CountBound (of b H) (dims_of d).n) (sym (is ∙ B.count)) (slots_count_bound marks (dims_of d).n (of b H) B.in_slots (block_state view d b) B.stands)

-- the answer about a cell that the block has
pub tells_bound : {K : Type 0} (view : K → Full) (marks : Marks fulls) (d : Draft K) (b : ℕ) → b < (dims_of d).b → (c : ℕ) → c < (dims_of d).n
    → (answer : Bool) → answer ≡ has (bound_at d.tally b) c → Tells (cell_of_block (dims_of d) c) (BoundInDraft view marks d b c) (Ok answer)
tells_bound view marks d b h c hc answer is =
    subst (λ (r : Result ℕ Fault). Tells r (BoundInDraft view marks d b c) (Ok answer)) (sym (cond-true _ _ _ (lt-ltb c (dims_of d).n hc)))
    (answer, refl, λ H st. says_bound view marks d H st b h c hc answer is)
