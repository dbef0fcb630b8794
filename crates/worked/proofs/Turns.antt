-- The test of a call after others on a draft, and what it says.
use Rattle.std.proofs.Common.{◌≡◌, ℕ, Bool, true, false, cond, not, ◌&&◌, eqb, List, [], ◌∷◌, length, Ok, Err, Result, sym, refl, ap, subst, inl, inr}
use Rattle.std.proofs.lemmas.Bool.{false≢true, and_parts, eqb-true}
use Rattle.span.specs.Sets.{differs}
use Rattle.span.specs.Held.{InSlots}
use Rattle.span.specs.Echelon.{Row}
use Rattle.span.specs.Slots.{ConflictSet}
use Rattle.span.specs.Blocks.{Placed, of}
use Rattle.gf2.specs.Masks.{value}
use Rattle.shapes.specs.declared.shape.Dims.{Dims}
use Rattle.shapes.specs.declared.fault.Fault.{Fault}
use Rattle.shapes.specs.declared.fault.Fault.TheVariants.{Conflict}
use Rattle.drafts.specs.Entries.{making}
use Rattle.drafts.specs.Outcomes.{dependent, Taken, Answered}
use Rattle.drafts.specs.Questions.{cell_in, Tells, SaysBound}
use Rattle.runs.specs.Runs.{Deed, Setting, Entering, entries, passing, AnswersEntering, Answers}
use Rattle.worked.specs.Cases.{fresh, Call, slot_words, takes, clashes, binds, work, outcome, Turn, Turns}
use Rattle.worked.proofs.Holding.{binding, is_bound, not_bound, absorbed, not_binds, binds_in, does_bind, slots, decided, in_slots_lem, filled, together, all_held, blames, to_blame, not_together}

-- an entry that is taken gets this slot
abbrev taken : ℕ → List (Row ℕ) → Row ℕ → ℕ → Bool
taken n H e slot = cond (absorbed H e) (eqb slot dependent) (binds_in n H e && eqb slot (length (slots H)))

is_taken : (n : ℕ) (H : List Placed) (x : Placed) (slot : ℕ) → InSlots (of x.0 H) (slots (of x.0 H)) → taken n (of x.0 H) x.1 slot ≡ true
    → Taken H x (Ok (x.0, slot))
is_taken n H x slot inside t = go (absorbed (of x.0 H) x.1) refl t
  where
    go : (a : Bool) → absorbed (of x.0 H) x.1 ≡ a
        → cond a (eqb slot dependent) (binds_in n (of x.0 H) x.1 && eqb slot (length (slots (of x.0 H)))) ≡ true
        → Taken H x (Ok (x.0, slot))
    go true q t = inr (not_binds (of x.0 H) x.1 q, ap (λ (s : ℕ). Ok (x.0, s)) (eqb-true _ _ t))
    go false q t =
        let p = and_parts _ _ t in
        inl (
          does_bind n (of x.0 H) x.1 p.0,
          (slots (of x.0 H), inside, ap (λ (s : ℕ). Ok (x.0, s)) (eqb-true _ _ p.1)),
        )

-- the entry's block is 0 and the slots of what is held there are known, and then more
abbrev within : ℕ → List Placed → Placed → Bool → Bool
within n H x more = eqb x.0 0 && (decided n (of x.0 H) && more)

is_within : (n : ℕ) (H : List Placed) (x : Placed) (more : Bool) → within n H x more ≡ true
    → (x.0 ≡ 0) × InSlots (of x.0 H) (slots (of x.0 H)) × (more ≡ true)
is_within n H x more t =
    let p = and_parts _ _ t in
    let q = and_parts _ _ p.1 in
    (eqb-true _ _ p.0, in_slots_lem n (of x.0 H) q.0, q.1)

-- an entry is taken with this slot
abbrev slotted : Dims → List Placed → ℕ → Placed → Bool
slotted d H slot x = within d.n H x (filled d (x ∷ H) && taken d.n (of x.0 H) x.1 slot)

is_slotted : (d : Dims) (H : List Placed) (slot : ℕ) (x : Placed) → slotted d H slot x ≡ true → Answered ConflictSet d H x (Ok (0, slot))
is_slotted d H slot x t =
    let p = is_within d.n H x _ t in
    let q = and_parts _ _ p.2 in
    inl (
      together d (x ∷ H) q.0,
      subst (λ (k : ℕ). Taken H x (Ok (k, slot))) p.0 (is_taken d.n H x slot p.1 q.1),
    )

-- an entry is in conflict with these slots
abbrev refused : Dims → List Placed → List ℕ → Placed → Bool
refused d H set x = within d.n H x (blames (slots (of x.0 H)) x.1 (value set))

is_refused : (d : Dims) (H : List Placed) (set : List ℕ) (x : Placed) → refused d H set x ≡ true
    → Answered ConflictSet d H x (Err (Conflict 0 set))
is_refused d H set x t =
    let p = is_within d.n H x _ t in
    let c = to_blame (slots (of x.0 H)) x.1 (value set) p.2 in
    inr (
      not_together d H x (value set) c,
      (slots (of x.0 H), p.1, (set, ap (λ (k : ℕ). Err (Conflict k set)) (sym p.0), c)),
    )

-- there is no fault before, and then more
abbrev passed : {X : Type 0} → Result X Fault → (X → Bool) → Bool
passed (Ok x) f = f x
passed (Err e) f = false

entering : (d : Dims) (H : List Placed) (q : Result Placed Fault) (r : Result (ℕ × ℕ) Fault) (f : Placed → Bool)
    → ((x : Placed) → f x ≡ true → Answered ConflictSet d H x r) → passed q f ≡ true → AnswersEntering ConflictSet d H q r
entering d H (Ok x) r f says t = says x t
entering d H (Err e) r f says t = absurd (false≢true t)

-- two truth values are one
abbrev same : Bool → Bool → Bool
same a b = not (differs a b)

is_same : (a b : Bool) → same a b ≡ true → a ≡ b
is_same true true t = refl
is_same true false t = absurd (false≢true t)
is_same false true t = absurd (false≢true t)
is_same false false t = refl

-- a cell that is bound or not is said to be so
says_bound : (H : List Placed) (b c : ℕ) (answer : Bool) → binding (of b H) c ≡ answer → SaysBound H b c answer
says_bound H b c true e = (λ a. is_bound (of b H) c e, λ h. refl)
says_bound H b c false e = (λ a. absurd (false≢true a), λ h. absurd (not_bound (of b H) c e h))

asking_bound : (H : List Placed) (b c : ℕ) (answer : Bool) (q : Result ℕ Fault) → passed q (λ _. same (binding (of b H) c) answer) ≡ true
    → Tells q (SaysBound H b c) (Ok answer)
asking_bound H b c answer (Ok x) t = (answer, refl, says_bound H b c answer (is_same _ _ t))
asking_bound H b c answer (Err f) t = absurd (false≢true t)

-- a call answers so, where hs is held
abbrev calls : Setting → List Entering → Call → Bool
calls S hs (takes key notice slot) = passed (making S.meaning S.dims S.rows key notice) (slotted S.dims (entries hs) slot)
calls S hs (clashes key notice set) =
    passed (making S.meaning S.dims S.rows key notice) (refused S.dims (entries hs) (slot_words set))
calls S hs (binds c bound) = passed (cell_in S.dims S.rows 0 c) (λ _. same (binding (of 0 (entries hs)) c) bound)

is_called : (S : Setting) (hs : List Entering) (call : Call) → calls S hs call ≡ true → Answers ConflictSet S hs (work call) (outcome call)
is_called S hs (takes key notice slot) t = (Ok (0, slot), refl, entering S.dims _ _ _ _ (is_slotted S.dims (entries hs) slot) t)
is_called S hs (clashes key notice set) t =
    (Err (Conflict 0 (slot_words set)), refl, entering S.dims _ _ _ _ (is_refused S.dims (entries hs) (slot_words set)) t)
is_called S hs (binds c bound) t = (Ok bound, refl, asking_bound (entries hs) 0 c bound (cell_in S.dims S.rows 0 c) t)

-- what is entered, all of which is held
abbrev pub entered : Dims → List Deed → List Entering
entered d works = passing (fresh d) [] works

abbrev pub turn : Turn → Bool
turn c = filled c.dims (entries (entered c.dims c.before)) && calls (fresh c.dims) (entered c.dims c.before) c.call

pub is_turn : (c : Turn) → turn c ≡ true → Turns c
is_turn c t =
    let hs = entered c.dims c.before in
    let p = and_parts _ _ t in
    (hs, all_held c.dims hs p.0, is_called (fresh c.dims) hs c.call p.1)
