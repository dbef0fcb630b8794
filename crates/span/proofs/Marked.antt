-- One entry more, for every kind with words and marks: words alone, and words with slot sets, by one text.
use Rattle.std.proofs.Common.{◌≡◌, ℕ, suc, ◌<◌, ◌≤◌, false, List, [], ◌∷◌, map, length, bit_xor, sym, refl, ap, ◌∙◌, subst, ap₂, true≢false}
use Rattle.std.proofs.lemmas.Bool.{false_from_ne_true}
use Rattle.std.specs.Int.Bits.{xor_zero_r, xor_self}
use Rattle.span.specs.Sets.{Within}
use Rattle.span.specs.Lead.{Lead}
use Rattle.span.specs.Kinds.{Kind, numbers, Comb, SameSpan}
use Rattle.span.specs.Echelon.{Row, rows, State, rows_of, Added, Reduces, Stands, Put}
use Rattle.span.specs.Held.{cells_of, CountBound}
use Rattle.span.specs.Slots.{chosen, ConflictSet}
use Rattle.span.specs.Marked.{Marks, lean_marks, Full, fulls, full_marks, word_row, word_state, bare_row, slot_row, slot_rows, StandsFor, NoSlots, Blames}
use Rattle.span.specs.Theorems.{Decides, SlotsCountBound, NamesSlots}
use Rattle.span.proofs.Lead.{lead_has}
use Rattle.span.proofs.Comb.{cancel, cancel_common}
use Rattle.span.proofs.Maps.{Mapped, rows_map, added_map}
use Rattle.span.proofs.Span.{span_map, span_trans, span_cons, span_absorb, comb_map}
use Rattle.span.proofs.Step.{within_lt, reduced_within, step_bind}
use Rattle.span.proofs.Bound.{bound_by, by_bound, free_not, new_cells}
use Rattle.span.proofs.Solve.{put_at, put_at_lem, start_stands, stands_solvable, conflict}
use Rattle.span.proofs.Held.{fits_cons}
use Rattle.span.proofs.Count.{count_le, count_put, count_none, count_bound_rows}
use Rattle.span.proofs.Slots.{tag, full_slots, plain, comb_chosen}

module _ {A : Type 0} {K : Kind A} (M : Marks K) where
  -- a row's words keep sums
  word_row_none : word_row M (rows K).none ≡ (rows numbers).none
  word_row_none i = (0, M.word_none i)

  word_row_sum : (x y : Row A) → word_row M ((rows K).sum x y) ≡ (rows numbers).sum (word_row M x) (word_row M y)
  word_row_sum x y i = (bit_xor x.0 y.0, M.word_sum x.1 y.1 i)

  -- a slot's row has its entry's words
  word_slot : (e : Row ℕ) (j : ℕ) → word_row M (slot_row M e j) ≡ e
  word_slot e j i = (e.0, (M.word_sum (M.mark j) (M.answer e.1) ∙ ap₂ bit_xor (M.word_mark j) (M.word_answer e.1)) i)

  word_slots : (L : List (Row ℕ)) → map (word_row M) (slot_rows M L) ≡ L
  word_slots [] = refl
  word_slots (e ∷ L) = ap₂ (λ (x : Row ℕ) (N : List (Row ℕ)). x ∷ N) (word_slot e (length L)) (word_slots L)

  -- the words of the rows
  word_mapped : (S : State A) → Mapped M.word S (word_state M S)
  word_mapped S = record { bound = λ c. refl; row = λ c. refl }

  word_rows : (S : State A) (n : ℕ) → map (word_row M) (rows_of S n) ≡ rows_of (word_state M S) n
  word_rows S n = rows_map M.word S (word_state M S) (word_mapped S) n

  -- the cell sets of the slots' rows
  slot_cells : (L : List (Row ℕ)) → cells_of (slot_rows M L) ≡ cells_of L
  slot_cells [] = refl
  slot_cells (e ∷ L) = ap (λ (N : List ℕ). e.0 ∷ N) (slot_cells L)

  -- the words of the state stand for what is held
  pub words_stand : (n : ℕ) (H L : List (Row ℕ)) (S : State A) → StandsFor M n H L S → Stands numbers n H (word_state M S)
  words_stand n H L S (stands, same, apart, count) = (
    stands.0,
    span_trans (rows numbers) H L (rows_of (word_state M S) n) same
        (subst (λ (N : List (Row ℕ)). SameSpan (rows numbers) N (rows_of (word_state M S) n)) (word_slots L)
        (subst (SameSpan (rows numbers) (map (word_row M) (slot_rows M L))) (word_rows S n)
        (span_map (rows K) (rows numbers) (word_row M) word_row_none word_row_sum (slot_rows M L) (rows_of S n) stands.1))),
  )

  -- the words of what a row reduces to
  word_bare : (e : Row ℕ) → word_row M (bare_row M e) ≡ e
  word_bare e i = (e.0, M.word_answer e.1 i)

  word_added : (e : Row ℕ) (v : Row A) → word_row M ((rows K).sum (bare_row M e) v) ≡ (rows numbers).sum e (word_row M v)
  word_added e v = word_row_sum (bare_row M e) v ∙ ap (λ (x : Row ℕ). (rows numbers).sum x (word_row M v)) (word_bare e)

  -- without marks the reduction is one of words
  pub words_reduce : (n : ℕ) (S : State A) (e : Row ℕ) (v : Row A) → Reduces K n S (bare_row M e) v → Reduces numbers n (word_state M S) e (word_row M v)
  words_reduce n S e v (made, clear) = (
    subst (λ (x : Row ℕ). Added numbers n (word_state M S) x (word_row M v)) (word_bare e)
        (added_map M.word S (word_state M S) (word_mapped S) K numbers M.word_none M.word_sum n (bare_row M e) v made),
    clear,
  )

  -- a state with no bound cell stands for nothing held
  pub open_stands : (n : ℕ) (S : State A) → ((c : ℕ) → c < n → S.bound c ≡ false) → StandsFor M n [] [] S
  open_stands n S free = (start_stands K n S free, λ v. (λ p. p, λ p. p), tt, count_none S n free)

  -- there are as many slots as bound cells
  pub slots_count_bound : SlotsCountBound M
  slots_count_bound n H L S stands =
      let words : Stands numbers n H (word_state M S) = words_stand n H L S stands in
      subst (CountBound H n) stands.3
      (count_bound_rows H S n (λ c h. (bound_by numbers n H (word_state M S) words c h, λ b. (by_bound numbers n H (word_state M S) words c b).1)))

  module _ (n : ℕ) (H L : List (Row ℕ)) (S : State A) (stands : StandsFor M n H L S) (e : Row ℕ) (v : Row A) (r : Reduces K n S (bare_row M e) v) where
    -- nothing left: the entry is a combination of the slots' entries
    pub marked_dependent : v.0 ≡ 0 → M.word v.1 ≡ 0 → StandsFor M n (e ∷ H) L S
    marked_dependent e0 e1 =
        (stands.0, span_trans (rows numbers) (e ∷ H) (e ∷ L) L (span_cons (rows numbers) e H L stands.1) (span_absorb (rows numbers) e L made), stands.2, stands.3)
      where
        whole : word_row M ((rows K).sum (bare_row M e) v) ≡ e
        whole = word_added e v ∙ ap ((rows numbers).sum e) (λ i. (e0 i, e1 i)) ∙ (rows numbers).plus_none e

        made : Comb (rows numbers) L e
        made =
            subst (Comb (rows numbers) L) whole
            (subst (λ (N : List (Row ℕ)). Comb (rows numbers) N (word_row M ((rows K).sum (bare_row M e) v))) (word_slots L)
            (comb_map (rows K) (rows numbers) (word_row M) word_row_none word_row_sum (slot_rows M L) ((rows K).sum (bare_row M e) v)
            ((stands.0.1 ((rows K).sum (bare_row M e) v)).1 r.0)))

    -- the lead cell of what is left was free, and is one of the block's
    cell_below : Within n e.0 → (p : ℕ) → Lead v.0 p → p < n
    cell_below he p lead = within_lt n v.0 p (reduced_within K n S stands.0.0 (bare_row M e) v he r) (lead_has v.0 p lead)

    was_free : (p : ℕ) → p < n → Lead v.0 p → S.bound p ≡ false
    was_free p pn lead = false_from_ne_true (S.bound p) (λ q. true≢false (sym (lead_has v.0 p lead) ∙ r.1 p pn q))

    -- cells left: the row goes to the lead cell, with the next slot marked
    pub marked_bind : Within n e.0 → (p : ℕ) → Lead v.0 p
        → (T : State A) → Put S p (v.0, K.sum (M.mark (length L)) v.1) T → StandsFor M n (e ∷ H) (e ∷ L) T
    marked_bind he p lead T into = (
      step_bind K n S T p u lead pn r.1 into (slot_rows M L) (slot_row M e (length L)) stands.0 he (made, r.1),
      span_cons (rows numbers) e H L stands.1,
      (subst (λ (N : List ℕ). ¬ Comb numbers N e.0) (slot_cells L) (new_cells K n (slot_rows M L) S stands.0 (bare_row M e) v r p (lead_has v.0 p lead)), stands.2),
      count_put S T p u into (was_free p pn lead) n pn ∙ ap suc stands.3,
    )
      where
        m : A
        m = M.mark (length L)

        u : Row A
        u = (v.0, K.sum m v.1)

        pn : p < n
        pn = cell_below he p lead

        twice : K.sum (M.answer e.1) v.1 ≡ K.sum (K.sum m (M.answer e.1)) (K.sum m v.1)
        twice = sym (cancel_common K m (M.answer e.1) v.1)

        made : Comb (rows K) (rows_of S n) ((rows K).sum (slot_row M e (length L)) u)
        made = subst (λ (x : A). Comb (rows K) (rows_of S n) (bit_xor e.0 v.0, x)) twice r.0

  -- the reduction decides
  pub decides : Decides M
  decides w n H L S fits_h stands e fit v r = record {
    slot = λ p lead.
        let pn : p < n = cell_below n H L S stands e v r fit.0 p lead in
        let u : Row A = (v.0, K.sum (M.mark (length L)) v.1) in
        let T : State A = put_at S p u in
        let into : Put S p u T = put_at_lem S p u in
        let words : Stands numbers n (e ∷ H) (word_state M T) = words_stand n (e ∷ H) (e ∷ L) T (marked_bind n H L S stands e v r fit.0 p lead T into) in (
          stands_solvable w n (e ∷ H) (word_state M T) words (fits_cons w n e H fit fits_h),
          (
            p,
            bound_by numbers n (e ∷ H) (word_state M T) words p pn into.0,
            free_not numbers n H (word_state M S) (words_stand n H L S stands) p (was_free n H L S stands e v r p pn lead),
          ),
          marked_bind n H L S stands e v r fit.0 p lead,
        );
    room = λ p lead.
        let u : Row A = (v.0, K.sum (M.mark (length L)) v.1) in
        let T : State A = put_at S p u in
        let many : length (rows_of T n) ≡ suc (length L) = (marked_bind n H L S stands e v r fit.0 p lead T (put_at_lem S p u)).3 in
        subst (λ (k : ℕ). k ≤ n) many (count_le T n);
    dependent = λ e0 e1.
        let next : StandsFor M n (e ∷ H) L S = marked_dependent n H L S stands e v r e0 e1 in
        let words : Stands numbers n (e ∷ H) (word_state M S) = words_stand n (e ∷ H) L S next in (
          stands_solvable w n (e ∷ H) (word_state M S) words (fits_cons w n e H fit fits_h),
          λ b. b.2 (bound_by numbers n H (word_state M S) (words_stand n H L S stands) b.0
              (by_bound numbers n (e ∷ H) (word_state M S) words b.0 b.1).0 (by_bound numbers n (e ∷ H) (word_state M S) words b.0 b.1).1),
          next,
        );
    conflict = λ e0 other s. conflict w n H (word_state M S) (words_stand n H L S stands) e (word_row M v) (words_reduce n S e v r) e0 other s.0 s.2;
  }

-- a state of words with slot sets, over the slots' entries with their own slots
tagged_stands : (n : ℕ) (L : List (Row ℕ)) (S : State Full) → Stands fulls n (slot_rows full_marks L) S → Stands fulls n (tag L) S
tagged_stands n L S = subst (λ (N : List (Row Full)). Stands fulls n N S) (full_slots L)

-- words with slot sets: the slots that a conflict shows are to blame
pub full_blames : Blames full_marks ConflictSet
full_blames n H L S stands e v r e0 other = go (comb_chosen L ((rows fulls).sum (bare_row full_marks e) v) (((tagged_stands n L S stands.0).1 ((rows fulls).sum (bare_row full_marks e) v)).1 r.0))
  where
    go : Within (length L) v.1.1 × (chosen L v.1.1 ≡ (rows numbers).sum e (plain v)) → ConflictSet L e v.1.1
    go (within, same) = (
      within,
      ap (λ (x : Row ℕ). x.0) same ∙ ap (bit_xor e.0) e0 ∙ xor_zero_r e.0,
      λ q. other (sym (cancel numbers e.1 v.1.0) ∙ ap (bit_xor e.1) (sym (ap (λ (x : Row ℕ). x.1) same) ∙ q) ∙ xor_self e.1),
    )

-- words alone show none
pub lean_blames : Blames lean_marks NoSlots
lean_blames n H L S stands e v r e0 other = refl

pub names_slots : NamesSlots
names_slots = (full_blames, lean_blames)
