-- The slot set beside a row is the one set of slots that sums to it.
use Rattle.std.proofs.Common.{◌≡◌, ℕ, suc, ◌^◌, ◌<◌, ◌≤◌, Bool, true, false, List, [], ◌∷◌, map, length, bit_xor, sym, refl, ap, ◌∙◌, subst, ap₂, inl, inr, true≢false, zero-le, arith}
use Rattle.std.proofs.Math.Decide.{ℕ_discrete as dec_eq}
use Rattle.std.specs.Int.Bits.{xor_zero_r, xor_self}
use Rattle.span.specs.Sets.{has, differs, Within}
use Rattle.span.specs.Kinds.{numbers, Comb}
use Rattle.span.specs.Echelon.{Row, rows}
use Rattle.span.specs.Held.{cells_of}
use Rattle.span.specs.Slots.{add_if, chosen, Apart, ConflictSet}
use Rattle.span.specs.Marked.{Full, fulls, full_marks, slot_rows}
use Rattle.span.proofs.Bits.{has_xor, has_xor_other, has_zero, has_pow, has_pow_other, no_cells}
use Rattle.span.proofs.Comb.{cancel, same_of_none, comb_sum}
use Rattle.span.proofs.Span.{comb_lift}
use Rattle.span.proofs.Bound.{cells_of_comb}

-- an entry as a row, with the set of its own slot beside its answer
abbrev tagged : Row ℕ → ℕ → Row Full
tagged e j = (e.0, (e.1, 2 ^ j))

-- each slot's entry, with its own slot
abbrev pub tag : List (Row ℕ) → List (Row Full)
tag [] = []
tag (e ∷ L) = tagged e (length L) ∷ tag L

-- they are the rows of words with slot sets
pub full_slots : (L : List (Row ℕ)) → slot_rows full_marks L ≡ tag L
full_slots [] = refl
full_slots (e ∷ L) = ap₂ (λ (x : Row Full) (N : List (Row Full)). x ∷ N) (λ i. (e.0, (e.1, xor_zero_r (2 ^ length L) i))) (full_slots L)

-- the slots below k alone count in the sum of the first k slots
chosen_same : (L : List (Row ℕ)) (s t : ℕ) → ((j : ℕ) → j < length L → has s j ≡ has t j) → chosen L s ≡ chosen L t
chosen_same [] s t h = refl
chosen_same (e ∷ L) s t h = ap₂ (λ (b : Bool) (v : Row ℕ). add_if b e v) (h (length L) (omega arith)) (chosen_same L s t (λ j l. h j (omega arith)))

-- one slot put in or taken out of a set
flip : ℕ → ℕ → ℕ
flip k t = bit_xor (2 ^ k) t

-- the slot itself
flip_at : (k t : ℕ) → has (flip k t) k ≡ differs true (has t k)
unfolding flip
flip_at k t = has_xor (2 ^ k) t k ∙ ap (λ (b : Bool). differs b (has t k)) (has_pow k)

-- another slot
flip_other : (k t c : ℕ) → ¬ (c ≡ k) → has (flip k t) c ≡ has t c
unfolding flip
flip_other k t c h = has_xor_other (2 ^ k) t c (has_pow_other k c h)

-- more room
within_more : (k t : ℕ) → Within k t → Within (suc k) t
within_more k t h c l = h c (omega arith)

-- a set below one more slot that does not have it is below it
within_less : (k t : ℕ) → Within (suc k) t → has t k ≡ false → Within k t
within_less k t h e c l = go (dec_eq c k)
  where
    go : Dec (c ≡ k) → has t c ≡ false
    go (yes p) = ap (has t) p ∙ e
    go (no p) = h c (omega arith)

-- the other set has it
differs_false : (b : Bool) → differs true b ≡ false → b ≡ true
differs_false true e = refl
differs_false false e = absurd (true≢false e)

-- the sum of the slots of a set that has the newest, from the sum without it
chosen_flip : (e : Row ℕ) (L : List (Row ℕ)) (t : ℕ) → chosen L (flip (length L) t) ≡ chosen L t
chosen_flip e L t = chosen_same L (flip (length L) t) t (λ j h. flip_other (length L) t j (λ q. absurd (omega arith)))

-- the cell set and the word of a row with a slot set
abbrev pub plain : Row Full → Row ℕ
plain x = (x.0, x.1.0)

-- a combination of the slots' entries is the sum of its slots' entries
pub comb_chosen : (L : List (Row ℕ)) (x : Row Full) → Comb (rows fulls) (tag L) x → Within (length L) x.1.1 × (chosen L x.1.1 ≡ plain x)
unfolding flip
comb_chosen [] x p = (λ c h. ap (λ (y : Row Full). has y.1.1 c) p ∙ has_zero c, sym (ap plain p))
comb_chosen (e ∷ L) x (inl p) = go (comb_chosen L x p)
  where
    go : Within (length L) x.1.1 × (chosen L x.1.1 ≡ plain x) → Within (suc (length L)) x.1.1 × (add_if (has x.1.1 (length L)) e (chosen L x.1.1) ≡ plain x)
    go (within, same) = (within_more (length L) x.1.1 within, ap (λ (b : Bool). add_if b e (chosen L x.1.1)) (within (length L) (omega arith)) ∙ same)
comb_chosen (e ∷ L) x (inr p) = go (comb_chosen L ((rows fulls).sum (tagged e (length L)) x) p)
  where
    s : ℕ
    s = x.1.1

    go : Within (length L) (flip (length L) s) × (chosen L (flip (length L) s) ≡ (rows numbers).sum e (plain x))
        → Within (suc (length L)) s × (add_if (has s (length L)) e (chosen L s) ≡ plain x)
    go (within, same) = (
      λ c h. sym (flip_other (length L) s c (λ q. absurd (omega arith))) ∙ within c (omega arith),
      ap₂ (λ (b : Bool) (v : Row ℕ). add_if b e v)
          (differs_false (has s (length L)) (sym (flip_at (length L) s) ∙ within (length L) (omega arith)))
          (sym (chosen_flip e L s) ∙ same)
          ∙ cancel (rows numbers) e (plain x),
    )

-- the sum of the entries of each set of slots is a combination, with that set beside it
pub chosen_comb : (L : List (Row ℕ)) (t : ℕ) → Within (length L) t → Comb (rows fulls) (tag L) ((chosen L t).0, ((chosen L t).1, t))
unfolding flip
chosen_comb [] t h = let z : t ≡ 0 = no_cells t (λ c. h c zero-le) in λ i. (0, (0, z i))
chosen_comb (e ∷ L) t h = go (has t (length L)) refl (chosen_comb L)
  where
    go : (b : Bool) → has t (length L) ≡ b → ((u : ℕ) → Within (length L) u → Comb (rows fulls) (tag L) ((chosen L u).0, ((chosen L u).1, u)))
        → Comb (rows fulls) (tagged e (length L) ∷ tag L) ((add_if b e (chosen L t)).0, ((add_if b e (chosen L t)).1, t))
    go false q ih = inl (ih t (within_less (length L) t h q))
    go true q ih =
        inr (subst (Comb (rows fulls) (tag L)) (λ i. ((back i).0, ((back i).1, flip (length L) t)))
        (ih (flip (length L) t) (λ c l. within c l (dec_eq c (length L)))))
      where
        back : chosen L (flip (length L) t) ≡ (rows numbers).sum e ((rows numbers).sum e (chosen L t))
        back = chosen_flip e L t ∙ sym (cancel (rows numbers) e (chosen L t))

        within : (c : ℕ) → length L ≤ c → Dec (c ≡ length L) → has (flip (length L) t) c ≡ false
        within c l (yes r) = ap (has (flip (length L) t)) r ∙ flip_at (length L) t ∙ ap (differs true) q
        within c l (no r) = flip_other (length L) t c r ∙ h c (omega arith)

-- the cell sets of the tagged entries
pub tag_cells : (L : List (Row ℕ)) → cells_of (tag L) ≡ cells_of L
tag_cells [] = refl
tag_cells (e ∷ L) = ap (λ (M : List ℕ). e.0 ∷ M) (tag_cells L)

-- only the empty set of slots has an empty sum of cell sets
pub apart_none : (L : List (Row ℕ)) → Apart (cells_of L) → (x : Row Full) → Comb (rows fulls) (tag L) x → x.0 ≡ 0 → x.1.1 ≡ 0
apart_none [] a x p e = ap (λ (y : Row Full). y.1.1) p
apart_none (d ∷ L) (new, a) x (inl p) e = apart_none L a x p e
apart_none (d ∷ L) (new, a) x (inr p) e =
    absurd (new (subst (Comb numbers (cells_of L)) (ap (bit_xor d.0) e ∙ xor_zero_r d.0)
    (subst (λ (M : List ℕ). Comb numbers M (bit_xor d.0 x.0)) (tag_cells L)
    (cells_of_comb fulls (tag L) ((rows fulls).sum (tagged d (length L)) x) p))))

-- two sets of slots whose cell sets have the same sum are one
pub chosen_one : (L : List (Row ℕ)) → Apart (cells_of L) → (t u : ℕ) → Within (length L) t → Within (length L) u → (chosen L t).0 ≡ (chosen L u).0 → t ≡ u
chosen_one L a t u ht hu e =
    same_of_none numbers t u
    (apart_none L a (bit_xor (chosen L t).0 (chosen L u).0, (bit_xor (chosen L t).1 (chosen L u).1, bit_xor t u))
    (comb_sum (rows fulls) (tag L) ((chosen L t).0, ((chosen L t).1, t)) ((chosen L u).0, ((chosen L u).1, u)) (chosen_comb L t ht) (chosen_comb L u hu))
    (ap (λ (m : ℕ). bit_xor m (chosen L u).0) e ∙ xor_self (chosen L u).0))

-- at most one set of slots is to blame
pub conflict_one : (L : List (Row ℕ)) → Apart (cells_of L) → (e : Row ℕ) (t u : ℕ) → ConflictSet L e t → ConflictSet L e u → t ≡ u
conflict_one L a e t u (ht, ct, at) (hu, cu, au) = chosen_one L a t u ht hu (ct ∙ sym cu)

-- the entries without their slots
plain_tag : (L : List (Row ℕ)) → map plain (tag L) ≡ L
plain_tag [] = refl
plain_tag (e ∷ L) = ap (λ (M : List (Row ℕ)). e ∷ M) (plain_tag L)

-- every combination of the entries is the sum of the entries in some set of slots
pub comb_slots : (L : List (Row ℕ)) (v : Row ℕ) → Comb (rows numbers) L v → (t : ℕ) × Within (length L) t × (chosen L t ≡ v)
comb_slots L v p = go (comb_lift (rows fulls) (rows numbers) plain refl (λ x y. refl) (tag L) v (subst (λ (M : List (Row ℕ)). Comb (rows numbers) M v) (sym (plain_tag L)) p))
  where
    go : (x : Row Full) × Comb (rows fulls) (tag L) x × (plain x ≡ v) → (t : ℕ) × Within (length L) t × (chosen L t ≡ v)
    go (x, q, e) = let c : Within (length L) x.1.1 × (chosen L x.1.1 ≡ plain x) = comb_chosen L x q in (x.1.1, c.0, c.1 ∙ e)
