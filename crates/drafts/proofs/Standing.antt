-- What a draft stands for: nothing at first; and one entry more, where its own block stands for it and the others are as they were.
use Rattle.std.proofs.Common.{◌≡◌, ℕ, ◌<◌, ◌≤◌, List, [], ◌∷◌, length, sym, refl, ap, ◌∙◌, subst, inl, inr, arith}
use Rattle.std.proofs.Math.Decide.{ℕ_discrete as dec_eq, dec_le}
use Rattle.span.specs.Sets.{has}
use Rattle.span.specs.Kinds.{Member}
use Rattle.span.specs.Fillings.{Solvable}
use Rattle.span.specs.Held.{Fits}
use Rattle.span.specs.Marked.{Full, fulls, Marks}
use Rattle.span.specs.Blocks.{Placed, of}
use Rattle.span.proofs.Bits.{has_zero}
use Rattle.span.proofs.Held.{solvable_none}
use Rattle.span.proofs.Blocks.{of_member, of_own, of_other, fits_of, solvable_of}
use Rattle.span.proofs.Marked.{open_stands as none_stand, words_stand}
use Rattle.span.proofs.Solve.{stands_solvable}
use Rattle.shapes.specs.Limits.{most_blocks}
use Rattle.shapes.proofs.Limits.{shape_limits}
use Rattle.drafts.specs.Entries.{answer_bits}
use Rattle.drafts.specs.Outcomes.{Together}
use Rattle.drafts.specs.Standing.{Blank, dims_of, block_state, BlockStands, Stands}
use Rattle.drafts.specs.declared.draft.Draft.{Draft}

module _ {K : Type 0} (view : K → Full) (marks : Marks fulls) where
  -- a blank tally stands for nothing, whatever the rows hold
  pub open_stands : (d : Draft K) → Blank d.tally → Stands view marks d []
  open_stands d blank = record {
    fits = λ x m. absurd m;
    below = λ x m. absurd m;
    blocks = λ b h.
        let few : b < 64 = omega (arith, (shape_limits d.shape).b_high) in
        record {
          in_slots = [];
          are = refl;
          stands = none_stand marks (dims_of d).n (block_state view d b) (λ c _. ap (λ m. has m c) (blank.none b few).1 ∙ has_zero c);
          count = (blank.none b few).0;
        };
    notes = blank.all;
  }

  -- what a draft holds can be satisfied at once
  pub stands_together : (d : Draft K) (H : List Placed) → Stands view marks d H → Together (dims_of d) H
  stands_together d H st = (solvable_of w n H).1 (λ b. go b (dec_le (dims_of d).b b))
    where
      w : ℕ
      w = answer_bits (dims_of d)

      n : ℕ
      n = (dims_of d).n

      go : (b : ℕ) → Dec ((dims_of d).b ≤ b) → Solvable w n (of b H)
      go b (yes past) = ((solvable_none w n).0, (solvable_none w n).1, λ e m. let h = st.below (b, e) (of_member b H e m) in absurd (omega arith))
      go b (no h) =
          let B = st.blocks b (omega arith) in
          stands_solvable w n (of b H) _ (words_stand marks n (of b H) B.in_slots (block_state view d b) B.stands) (fits_of w n H st.fits b)

  -- one entry more is held
  pub stands_cons : (d d' : Draft K) → d'.shape ≡ d.shape → (H : List Placed) → Stands view marks d H
      → (x : Placed) → x.0 < (dims_of d).b → Fits (answer_bits (dims_of d)) (dims_of d).n x.1
      → BlockStands view marks d' x.0 (x.1 ∷ of x.0 H)
      → ((b : ℕ) → b < (dims_of d).b → ¬ (x.0 ≡ b) → BlockStands view marks d' b (of b H))
      → length d'.tally.blocks ≡ most_blocks
      → Stands view marks d' (x ∷ H)
  stands_cons d d' shape H st x h fit own others notes = record {
    fits = λ y m. fits y m;
    below = below;
    blocks = λ b hb. go b (dec_eq x.0 b) (subst (λ s. b < s.dims.b) shape hb);
    notes = notes;
  }
    where
      fits : (y : Placed) → Member y (x ∷ H) → Fits (answer_bits (dims_of d')) (dims_of d').n y.1
      fits y (inl e) = subst (λ s. Fits (answer_bits s.dims) s.dims.n y.1) (sym shape) (subst (λ z. Fits (answer_bits (dims_of d)) (dims_of d).n z.1) (sym e) fit)
      fits y (inr m) = subst (λ s. Fits (answer_bits s.dims) s.dims.n y.1) (sym shape) (st.fits y m)

      below : (y : Placed) → Member y (x ∷ H) → y.0 < (dims_of d').b
      below y (inl e) = subst (λ s. y.0 < s.dims.b) (sym shape) (subst (λ z. z.0 < (dims_of d).b) (sym e) h)
      below y (inr m) = subst (λ s. y.0 < s.dims.b) (sym shape) (st.below y m)

      go : (b : ℕ) → Dec (x.0 ≡ b) → b < (dims_of d).b → BlockStands view marks d' b (of b (x ∷ H))
      go b (yes e) hb = subst (λ c. BlockStands view marks d' c (of c (x ∷ H))) e (subst (BlockStands view marks d' x.0) (sym (of_own x H)) own)
      go b (no ne) hb = subst (BlockStands view marks d' b) (sym (of_other x H b ne)) (others b hb ne)
