-- Tests of what is held: bound cells, slots, fillings and slots to blame, and what they say.
use Rattle.std.proofs.Common.{◌≡◌, ℕ, ◌%◌, ◌^◌, Bool, true, false, not, ◌&&◌, ◌||◌, eqb, ltb, ◌⊎◌, List, [], ◌∷◌, length, sym, refl, ap, ◌∙◌, subst, ap₂, inl, inr, bit_xor}
use Rattle.std.proofs.lemmas.Nat.{mod_below, pow_pos}
use Rattle.std.proofs.lemmas.Bool.{true≢false, false≢true, and_parts, and_from, not_from_false, eqb-true, eqb-false, ltb-true}
use Rattle.span.specs.Sets.{has}
use Rattle.span.specs.Lead.{Lead}
use Rattle.span.specs.Kinds.{numbers, Comb, Member}
use Rattle.span.specs.Echelon.{Row, put}
use Rattle.span.specs.Fillings.{xor_over, Satisfies, SatisfiesAll}
use Rattle.span.specs.Held.{cells_of, BoundBy, Binds, HeldBy, InSlots}
use Rattle.span.specs.Slots.{add_if, chosen, ConflictSet}
use Rattle.span.specs.Blocks.{Placed, of, SatisfiesEach}
use Rattle.span.proofs.Bits.{has_past}
use Rattle.span.proofs.Lead.{lead_of_lowest, lead_has, lead_first}
use Rattle.span.proofs.Span.{span_absorb}
use Rattle.span.proofs.Bound.{bound_span}
use Rattle.span.proofs.Xors.{xor_over_empty, xor_over_xor}
use Rattle.span.proofs.Blocks.{of_member}
use Rattle.shapes.specs.declared.shape.Dims.{Dims}
use Rattle.table.specs.Questions.{word_at}
use Rattle.drafts.specs.Entries.{answer_bits}
use Rattle.drafts.specs.Outcomes.{Together}
use Rattle.runs.specs.Runs.{Entering, entries}
use Rattle.worked.specs.Cases.{larger}
use Rattle.worked.proofs.Searches.{every, each, all_below, below, from_below, some_below, found, some_sum, sum_found, no_sum}

-- a test that is not passed
pub failed : (b : Bool) → not b ≡ true → b ≡ false
failed true t = absurd (false≢true t)
failed false t = refl

-- ---- bound cells

-- c leads m
abbrev pub leads : ℕ → ℕ → Bool
leads c m = has m c && all_below c (λ d. not (has m d))

leads_lead : (c m : ℕ) → leads c m ≡ true → Lead m c
leads_lead c m t =
    let p = and_parts _ _ t in
    lead_of_lowest m c (p.0, λ d h. failed _ (below c (λ d. not (has m d)) p.1 d h))

lead_leads : (c m : ℕ) → Lead m c → leads c m ≡ true
lead_leads c m l =
    and_from _ _ (lead_has m c l)
    (from_below c (λ d. not (has m d)) (λ d h. not_from_false _ (lead_first m c d l h)))

-- the entries bind c
abbrev pub binding : List (Row ℕ) → ℕ → Bool
binding H c = some_sum (leads c) (cells_of H)

pub is_bound : (H : List (Row ℕ)) (c : ℕ) → binding H c ≡ true → BoundBy H c
is_bound H c t = let r = sum_found (leads c) (cells_of H) t in (r.0, r.1, leads_lead c r.0 r.2)

pub not_bound : (H : List (Row ℕ)) (c : ℕ) → binding H c ≡ false → ¬ BoundBy H c
not_bound H c t (m, p, l) = true≢false (sym (lead_leads c m l) ∙ no_sum (leads c) (cells_of H) t m p)

-- ---- slots

-- the entry's cell set is a sum of those that are held
abbrev pub absorbed : List (Row ℕ) → Row ℕ → Bool
absorbed H e = some_sum (eqb e.0) (cells_of H)

pub not_binds : (H : List (Row ℕ)) (e : Row ℕ) → absorbed H e ≡ true → ¬ Binds H e
not_binds H e t (c, b, free) =
    let r = sum_found (eqb e.0) (cells_of H) t in
    let sum : Comb numbers (cells_of H) e.0 = subst (Comb numbers (cells_of H)) (sym (eqb-true _ _ r.2)) r.1 in
    free ((bound_span numbers (e ∷ H) H (span_absorb numbers e.0 (cells_of H) sum) c).0 b)

-- it binds a cell below n
abbrev pub new_cell : List (Row ℕ) → Row ℕ → ℕ → Bool
new_cell H e c = binding (e ∷ H) c && not (binding H c)

abbrev pub binds_in : ℕ → List (Row ℕ) → Row ℕ → Bool
binds_in n H e = some_below n (new_cell H e)

pub does_bind : (n : ℕ) (H : List (Row ℕ)) (e : Row ℕ) → binds_in n H e ≡ true → Binds H e
does_bind n H e t =
    let r = found n (new_cell H e) t in
    let p = and_parts _ _ r.1 in
    (r.0, is_bound (e ∷ H) r.0 p.0, not_bound H r.0 (failed _ p.1))

-- the entries in the slots
abbrev pub slots : List (Row ℕ) → List (Row ℕ)
slots [] = []
slots (e ∷ H) = put (not (absorbed H e)) e (slots H)

-- each entry that is not absorbed binds a cell below n
abbrev pub decided : ℕ → List (Row ℕ) → Bool
decided n [] = true
decided n (e ∷ H) = (absorbed H e || binds_in n H e) && decided n H

pub in_slots_lem : (n : ℕ) (H : List (Row ℕ)) → decided n H ≡ true → InSlots H (slots H)
in_slots_lem n [] t = refl
in_slots_lem n (e ∷ H) t =
    let p = and_parts _ _ t in
    (slots H, in_slots_lem n H p.1, go (absorbed H e) refl p.0)
  where
    go : (a : Bool) → absorbed H e ≡ a → (a || binds_in n H e) ≡ true
        → (Binds H e × (put (not a) e (slots H) ≡ e ∷ slots H)) ⊎ ((¬ Binds H e) × (put (not a) e (slots H) ≡ slots H))
    go true q s = inr (not_binds H e q, refl)
    go false q s = inl (does_bind n H e s, refl)

pub slots_held : (H : List (Row ℕ)) (e : Row ℕ) → Member e (slots H) → Member e H
slots_held [] e m = m
slots_held (d ∷ H) e m = go (not (absorbed H d)) m (slots_held H e)
  where
    go : (b : Bool) → Member e (put b d (slots H)) → (Member e (slots H) → Member e H) → Member e (d ∷ H)
    go true (inl p) rest = inl p
    go true (inr p) rest = inr (rest p)
    go false p rest = inr (rest p)

-- ---- fillings

-- the filling satisfies each entry
abbrev pub fills : ℕ → (ℕ → ℕ → ℕ) → Placed → Bool
fills n g x = eqb (xor_over (g x.0) n x.1.0) x.1.1

pub satisfies : (n : ℕ) (g : ℕ → ℕ → ℕ) (H : List Placed) → every (fills n g) H ≡ true → SatisfiesEach n g H
satisfies n g H t x m = eqb-true _ _ (each _ _ t x m)

-- one filling that is tried for all cases, cut to the bits of the shape
abbrev pub tried : Dims → ℕ → ℕ → ℕ
tried d b c = word_at larger 0 c % 2 ^ answer_bits d

-- it satisfies each entry
abbrev pub filled : Dims → List Placed → Bool
filled d H = every (fills d.n (tried d)) H

pub together : (d : Dims) (H : List Placed) → filled d H ≡ true → Together d H
together d H t =
    (tried d, λ b c. mod_below (word_at larger 0 c) (2 ^ answer_bits d) (pow_pos (answer_bits d)), satisfies d.n (tried d) H t)

-- enterings that one filling satisfies are all held
pub all_held : (d : Dims) (E : List Entering) → filled d (entries E) ≡ true → HeldBy (λ F. Together d (entries F)) E E
all_held d [] t = refl
all_held d (e ∷ E) t =
    (E, all_held d E (and_parts _ _ t).1, inl (together d (entries (e ∷ E)) t, refl))

-- ---- conflicts

-- the slots t are to blame for the conflict of e
abbrev pub blames : List (Row ℕ) → Row ℕ → ℕ → Bool
blames L e t = ltb t (2 ^ length L) && (eqb (chosen L t).0 e.0 && not (eqb (chosen L t).1 e.1))

pub to_blame : (L : List (Row ℕ)) (e : Row ℕ) (t : ℕ) → blames L e t ≡ true → ConflictSet L e t
to_blame L e t b =
    let p = and_parts _ _ b in
    let q = and_parts _ _ p.1 in (
      λ c h. has_past t (length L) c (ltb-true _ _ p.0) h,
      eqb-true _ _ q.0,
      eqb-false _ _ (failed _ q.1),
    )

-- a filling that satisfies the slots' entries satisfies the sum of some
satisfies_chosen : (n : ℕ) (f : ℕ → ℕ) (L : List (Row ℕ)) → SatisfiesAll n f L → (t : ℕ) → Satisfies n f (chosen L t)
satisfies_chosen n f [] s t = xor_over_empty f n
satisfies_chosen n f (e ∷ L) s t = go (has t (length L)) (satisfies_chosen n f L (λ x m. s x (inr m)) t)
  where
    go : (b : Bool) → Satisfies n f (chosen L t) → Satisfies n f (add_if b e (chosen L t))
    go true r = xor_over_xor f n e.0 (chosen L t).0 ∙ ap₂ bit_xor (s e (inl refl)) r
    go false r = r

-- where slots are to blame, no filling satisfies the held entries and this one
pub not_together : (d : Dims) (H : List Placed) (x : Placed) (t : ℕ) → ConflictSet (slots (of x.0 H)) x.1 t → ¬ Together d (x ∷ H)
not_together d H x t (within, cells, other) (g, small, sat) =
    other (sym (satisfies_chosen d.n (g x.0) (slots (of x.0 H)) held t) ∙ ap (xor_over (g x.0) d.n) cells ∙ sat x (inl refl))
  where
    held : SatisfiesAll d.n (g x.0) (slots (of x.0 H))
    held e m = sat (x.0, e) (inr (of_member x.0 H e (slots_held (of x.0 H) e m)))
