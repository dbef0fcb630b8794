-- What is done with an entry, by what is left of it when its block's rows are reduced out of it.
use Rattle.std.proofs.Common.{◌≡◌, ℕ, suc, ◌+◌, ◌*◌, ◌<◌, min, ◌⊎◌, List, ◌∷◌, length, drop, set, Ok, Err, sym, refl, ap, ◌∙◌, subst, inl, inr, add-mul, one-mul, arith, length-set, get_or-set_other, get_or-set_same}
use Rattle.std.proofs.lemmas.Bool.{lt-ltb, cond-true}
use Rattle.span.specs.Sets.{Within as CellsWithin}
use Rattle.span.specs.Lead.{Lead}
use Rattle.span.specs.Kinds.{Kind}
use Rattle.span.specs.Echelon.{Row, State, Added, Reduces, Put}
use Rattle.span.specs.Slots.{Blame}
use Rattle.span.specs.Fillings.{Solvable}
use Rattle.span.specs.Held.{Binds}
use Rattle.span.specs.Marked.{Full, fulls, Marks, bare_row, StandsFor, Decided, Blames}
use Rattle.span.specs.Blocks.{Placed, of}
use Rattle.span.proofs.Lead.{lead_has, empty_or_lead}
use Rattle.span.proofs.Step.{within_lt, reduced_within}
use Rattle.span.proofs.Marked.{decides}
use Rattle.span.proofs.Same.{same_rows_stand}
use Rattle.span.proofs.Blocks.{fits_of, own_decides}
use Rattle.gf2.specs.Kinds.{Seen}
use Rattle.gf2.specs.Masks.{width, mask, value}
use Rattle.gf2.specs.Rows.{row_of, state_of, block_of, Reduction, BindingIn}
use Rattle.gf2.specs.declared.row.Row.{Row as Record}
use Rattle.gf2.specs.declared.sets.CellSet.{CellSet}
use Rattle.gf2.proofs.Views.{reduction_seen, binding_seen}
use Rattle.gf2.proofs.Frames.{others_stay}
use Rattle.shapes.specs.declared.fault.Fault.TheVariants.{Conflict}
use Rattle.shapes.proofs.Limits.{shape_limits}
use Rattle.drafts.specs.Entries.{answer_bits}
use Rattle.drafts.specs.Outcomes.{dependent, Together}
use Rattle.drafts.specs.Standing.{dims_of, records_of, noted_at, block_at, block_state, BlockStands, Stands}
use Rattle.drafts.specs.Entering.{OnlyBlock, Holds}
use Rattle.drafts.specs.Steps.{Within, Sorted, Puts, Judges}
use Rattle.drafts.specs.declared.draft.enter.Verdict.{Verdict}
use Rattle.drafts.specs.declared.draft.enter.Verdict.TheVariants as verdict
use Rattle.drafts.specs.declared.draft.Draft.{Draft}
use Rattle.drafts.specs.declared.tally.Noted.{Noted}
use Rattle.drafts.proofs.Standing.{stands_together, stands_cons}
use Rattle.drafts.proofs.Only.{only_same, blocks_disjoint, same_outside}

module _ {K A : Type 0} (mean : K → A) (kind : Kind A) (view : K → Full) (seen : Seen mean kind view) (marks : Marks fulls)
    (blame : Blame) (blames : Blames marks blame)
    (d : Draft K) (b word : ℕ) (q left : Record K) (within : Within d (b, (mask q.cells, word)))
    (of_word : view q.answer ≡ marks.answer word) (red : Reduction mean kind (records_of d) (block_at d b) q left) where
  abbrev e : Row ℕ
  e = (mask q.cells, word)

  abbrev x : Placed
  x = (b, e)

  abbrev n : ℕ
  n = (dims_of d).n

  abbrev w : ℕ
  w = answer_bits (dims_of d)

  abbrev S : State Full
  S = block_state view d b

  module _ (H : List Placed) (st : Stands view marks d H) where
    abbrev B : BlockStands view marks d b (of b H)
    B = st.blocks b within.block

    abbrev L : List (Row ℕ)
    L = B.in_slots

    reduced : Reduces fulls n S (bare_row marks e) (row_of view left)
    reduced =
        let r = reduction_seen mean kind view seen (records_of d) (block_at d b) q left red in
        (subst (λ (v : Row Full). Added fulls n S v (row_of view left)) (λ i. (mask q.cells, of_word i)) r.added, r.clear B.stands.0.0)

    decided : Decided marks w n (of b H) L S e (row_of view left)
    decided = decides marks w n (of b H) L S (fits_of w n H st.fits b) B.stands e within.fits (row_of view left) reduced

    inside : CellsWithin n (mask left.cells)
    inside = reduced_within fulls n S B.stands.0.0 (bare_row marks e) (row_of view left) within.fits.0 reduced

    -- all held entries and this one can be satisfied where the block's can
    taken : Solvable w n (e ∷ of b H) → Together (dims_of d) (x ∷ H)
    taken = (own_decides w n H (stands_together view marks d H st) x).1

    own : Together (dims_of d) (x ∷ H) → Solvable w n (e ∷ of b H)
    own = (own_decides w n H (stands_together view marks d H st) x).0

  -- nothing is left
  pub dependent_holds : mask left.cells ≡ 0 → marks.word (view left.answer) ≡ 0 → Holds view marks blame d x (Ok (b, dependent)) d
  dependent_holds empty zero = record {
    answered = λ H st. let t = (decided H st).dependent empty zero in inl (taken H st t.0, inr (t.1, refl));
    held = λ H st _.
        let t = (decided H st).dependent empty zero in
        stands_cons view marks d d refl H st x within.block within.fits
        (record { in_slots = L H st; are = (L H st, (B H st).are, inr (t.1, refl)); stands = t.2; count = (B H st).count })
        (λ c hc ne. st.blocks c hc) st.notes;
    refused = λ f p. let z : ◌≡◌ {A = ℕ} 0 1 = cc in absurd (omega arith);
    only = only_same d b;
  }

  -- a word alone is left
  pub conflict_holds : mask left.cells ≡ 0 → ¬ (marks.word (view left.answer) ≡ 0) → (slots : List ℕ) → value slots ≡ marks.slots (view left.answer)
      → Holds view marks blame d x (Err (Conflict b slots)) d
  conflict_holds empty other slots is = record {
    answered = λ H st. inr (
      λ t. (decided H st).conflict empty other (own H st t),
      (
        L H st,
        (B H st).are,
        (
          slots,
          refl,
          subst (blame (L H st) e) (sym is) (blames n (of b H) (L H st) S (B H st).stands e (row_of view left) (reduced H st) empty other),
        ),
      ),
    );
    held = λ H st t. absurd ((decided H st).conflict empty other (own H st t));
    refused = λ f p. refl;
    only = only_same d b;
  }

  module _ (some : ¬ (mask left.cells ≡ 0)) (slot : ℕ) (d' : Draft K) (puts : Puts mean kind view marks d b left slot d') where
    abbrev made : Record K
    made = record { cells = left.cells; answer = puts.answer }

    abbrev records' : List (Record K)
    records' = puts.rows.records.now

    abbrev noted : Noted
    noted = record { slots = min (slot + 1) 65535; bound = puts.bound }

    -- the draft with the row put in it
    abbrev after : Draft K
    after = record {
      shape = d.shape;
      rows = puts.rows;
      tally = record { blocks = set d.tally.blocks b noted };
    }

    -- of every other block the same is noted
    others : (c : ℕ) → ¬ (c ≡ b) → noted_at after.tally c ≡ noted_at d.tally c
    others c ne = get_or-set_other d.tally.blocks b c noted _ ne

    bind : BindingIn view fulls (records_of d) (block_at d b) made records' (mask puts.bound)
    bind = record {
      there = λ there. binding_seen mean kind view seen (records_of d) (block_at d b) made records' (mask puts.bound) (puts.bind.there there);
      missing = puts.bind.missing;
    }

    module _ (H : List Placed) (st : Stands view marks d H) where
      -- what the lead cell of the row says
      pub record Led : Type 0 where
        pub together : Together (dims_of d) (x ∷ H)
        pub binds : Binds (of b H) e
        pub room : length (L H st) < n
        pub stands : StandsFor marks n (e ∷ of b H) (e ∷ L H st) (state_of view fulls records' (b * n) (mask puts.bound))

      slot_is : slot ≡ length (L H st)
      slot_is = puts.next ∙ (B H st).count

      led : Led
      led = go (empty_or_lead n (mask left.cells) (inside H st))
        where
          go : (mask left.cells ≡ 0) ⊎ ((p : ℕ) × Lead (mask left.cells) p) → Led
          go (inl z) = absurd (some z)
          go (inr (p, lead)) =
              let pn : p < n = within_lt n (mask left.cells) p (inside H st) (lead_has (mask left.cells) p lead) in
              let room : length (L H st) < n = (decided H st).room p lead in
              let small : slot < width = omega (arith, slot_is, (shape_limits d.shape).n_high) in
              let T : State Full = state_of view fulls records' (b * n) (mask puts.bound) in
              let put : Put S p (row_of view made) T = (bind.there red.there).put p lead pn in
              let same : view puts.answer ≡ fulls.sum (marks.mark (length (L H st))) (view left.answer) =
              puts.marked ∙ cond-true _ _ _ (lt-ltb slot width small) ∙ ap (λ (j : ℕ). fulls.sum (marks.mark j) (view left.answer)) slot_is in
              let t = (decided H st).slot p lead in
              record {
                together = taken H st t.0;
                binds = t.1;
                room = room;
                stands = t.2 T (subst (λ (v : Full). Put S p (mask left.cells, v) T) same put);
              }

      -- the entry's own block
      own_block : BlockStands view marks after b (e ∷ of b H)
      own_block =
          let few : b < length d.tally.blocks = omega (arith, st.notes, within.block, (shape_limits d.shape).b_high) in
          let own : noted_at after.tally b ≡ noted = get_or-set_same d.tally.blocks b noted _ few in
          let counted : min (slot + 1) 65535 ≡ suc (length (L H st)) = omega (arith, slot_is, led.room, (shape_limits d.shape).n_high) in
          record {
            in_slots = e ∷ L H st;
            are = (L H st, (B H st).are, inl (led.binds, refl));
            stands = subst (λ (s : CellSet). StandsFor marks n (e ∷ of b H) (e ∷ L H st) (state_of view fulls records' (b * n) (mask s))) (sym (ap (λ t. t.bound) own)) led.stands;
            count = ap (λ t. t.slots) own ∙ counted;
          }

      -- every other block
      other_block : (c : ℕ) → c < (dims_of d).b → ¬ (b ≡ c) → BlockStands view marks after c (of c H)
      other_block c hc ne =
          let C = st.blocks c hc in
          let same : noted_at after.tally c ≡ noted_at d.tally c = others c (λ p. ne (sym p)) in
          let stays = others_stay view fulls (records_of d) (block_at d b) made records' (mask puts.bound) bind (block_at d c) (blocks_disjoint d b c ne) in
          record {
            in_slots = C.in_slots;
            are = C.are;
            stands = subst (λ (s : CellSet). StandsFor marks n (of c H) C.in_slots (state_of view fulls records' (c * n) (mask s))) (sym (ap (λ t. t.bound) same))
                (same_rows_stand marks n (of c H) C.in_slots (block_state view d c) (block_of view fulls records' (block_at d c)) stays C.stands);
            count = ap (λ t. t.slots) same ∙ C.count;
          }

    only_block : OnlyBlock d b after
    only_block =
        let out = same_outside view fulls (records_of d) (block_at d b) made records' (mask puts.bound) bind in
        let past : b * n + n ≡ (b + 1) * n = omega (arith, add-mul b 1 n, one-mul n) in
        record {
          shape = refl;
          rows = out.rows;
          before = out.before;
          after = subst (λ (j : ℕ). drop j records' ≡ drop j (records_of d)) past out.after;
          notes = λ c ne. (ap (λ t. t.slots) (others c ne), ap (λ t. mask t.bound) (others c ne));
        }

    -- cells are left
    pub binds_holds : Holds view marks blame d x (Ok (b, slot)) d'
    binds_holds = subst (Holds view marks blame d x (Ok (b, slot))) (sym puts.is) (record {
      answered = λ H st. inl ((led H st).together, inl ((led H st).binds, (L H st, (B H st).are, ap (λ (j : ℕ). Ok (b, j)) (slot_is H st))));
      held = λ H st _. stands_cons view marks d after refl H st x within.block within.fits (own_block H st) (other_block H st)
          (length-set d.tally.blocks b noted ∙ st.notes);
      refused = λ f p. let z : ◌≡◌ {A = ℕ} 0 1 = cc in absurd (omega arith);
      only = only_block;
    })

  -- what is done by the verdict
  pub judged : (v : Verdict K) → Sorted view marks left v → Judges mean kind view marks blame d x v
  judged (verdict.Binds row) (is, some) =
      λ slot d' puts. binds_holds some slot d' (subst (λ (y : Record K). Puts mean kind view marks d b y slot d') is puts)
  judged verdict.Dependent (empty, zero) = dependent_holds empty zero
  judged (verdict.Conflict slots) (empty, other, is) = conflict_holds empty other slots is
