-- What is held has slots and a state, over any kind with marks.
use Rattle.std.proofs.Common.{◌≡◌, ℕ, false, ◌⊎◌, List, [], ◌∷◌, length, sym, refl, subst, inl, inr}
use Rattle.std.proofs.Math.Decide.{ℕ_discrete as dec_eq}
use Rattle.span.specs.Lead.{Lead}
use Rattle.span.specs.Kinds.{Kind}
use Rattle.span.specs.Echelon.{Row, rows, State, Reduces}
use Rattle.span.specs.Fillings.{Solvable}
use Rattle.span.specs.Held.{Binds, Fits, FitsAll, Held, InSlots, Run}
use Rattle.span.specs.Slots.{ConflictSet}
use Rattle.span.specs.Marked.{Marks, lean_marks, Full, full_marks, bare_row, StandsFor, Decided}
use Rattle.span.proofs.Lead.{empty_or_lead}
use Rattle.span.proofs.Reduce.{reduces}
use Rattle.span.proofs.Step.{reduced_within}
use Rattle.span.proofs.Solve.{put_at, put_at_lem}
use Rattle.span.proofs.Once.{in_slots_one}
use Rattle.span.proofs.Held.{held_solvable, solvable_none, held_fits}
use Rattle.span.proofs.Slots.{conflict_one}
use Rattle.span.proofs.Marked.{open_stands, decides, full_blames}

-- a run holds what is held after its enterings, and its slots are that block's
pub run_parts : (w n : ℕ) (E H L : List (Row ℕ)) → Run w n E H L → Held w n E H × InSlots H L
run_parts w n [] H L (e, f) = (e, subst (λ (F : List (Row ℕ)). InSlots F L) (sym e) f)
run_parts w n (x ∷ E) H L (G, M, run, inl (s, q, last)) =
    let r : Held w n E G × InSlots G M = run_parts w n E G M run in
    ((G, r.0, inl (s, q)), subst (λ (F : List (Row ℕ)). InSlots F L) (sym q) (M, r.1, last))
run_parts w n (x ∷ E) H L (G, M, run, inr (s, q, p)) =
    let r : Held w n E G × InSlots G M = run_parts w n E G M run in (
      (G, r.0, inr (s, q)),
      subst (λ (F : List (Row ℕ)). InSlots F L) (sym q) (subst (λ (N : List (Row ℕ)). InSlots G N) (sym p) r.1),
    )

-- the converse
pub run_of_parts : (w n : ℕ) (E H L : List (Row ℕ)) → Held w n E H → InSlots H L → Run w n E H L
run_of_parts w n [] H L held slots = (held, subst (λ (F : List (Row ℕ)). InSlots F L) held slots)
run_of_parts w n (x ∷ E) H L (G, held, inl (s, q)) slots =
    let own : InSlots (x ∷ G) L = subst (λ (F : List (Row ℕ)). InSlots F L) q slots in
    (G, own.0, run_of_parts w n E G own.0 held own.1, inl (s, q, own.2))
run_of_parts w n (x ∷ E) H L (G, held, inr (s, q)) slots =
    (G, L, run_of_parts w n E G L held (subst (λ (F : List (Row ℕ)). InSlots F L) q slots), inr (s, q, refl))

-- what a run holds is what is held after its enterings
pub run_held : (w n : ℕ) (E H L : List (Row ℕ)) → Run w n E H L → Held w n E H
run_held w n E H L run = (run_parts w n E H L run).0

module _ {A : Type 0} {K : Kind A} (M : Marks K) (w n : ℕ) where
  -- an entry's reduction to a word alone
  abbrev pub WordLeft : State A → Row ℕ → Type 0
  WordLeft S e = (v : Row A) × Reduces K n S (bare_row M e) v × (v.0 ≡ 0) × (¬ (M.word v.1 ≡ 0))

  -- what an entry comes to: one of the three
  abbrev pub Verdict : State A → List (Row ℕ) → List (Row ℕ) → Row ℕ → Type 0
  Verdict S H L e =
      (Solvable w n (e ∷ H) × Binds H e × ((T : State A) × StandsFor M n (e ∷ H) (e ∷ L) T))
      ⊎ ((Solvable w n (e ∷ H) × (¬ Binds H e) × StandsFor M n (e ∷ H) L S)
      ⊎ ((¬ Solvable w n (e ∷ H)) × WordLeft S e))

  pub verdict : (H L : List (Row ℕ)) → FitsAll w n H → (S : State A) → StandsFor M n H L S → (e : Row ℕ) → Fits w n e → Verdict S H L e
  verdict H L fits_h S stands e fit = go (reduces K n S stands.0.0 (bare_row M e))
    where
      go : (v : Row A) × Reduces K n S (bare_row M e) v → Verdict S H L e
      go (v, r) = by_cells (empty_or_lead n v.0 (reduced_within K n S stands.0.0 (bare_row M e) v fit.0 r))
        where
          d : Decided M w n H L S e v
          d = decides M w n H L S fits_h stands e fit v r

          by_word : v.0 ≡ 0 → Dec (M.word v.1 ≡ 0) → Verdict S H L e
          by_word e0 (yes z) = inr (inl (d.dependent e0 z))
          by_word e0 (no z) = inr (inr (d.conflict e0 z, (v, r, e0, z)))

          by_cells : (v.0 ≡ 0) ⊎ ((p : ℕ) × Lead v.0 p) → Verdict S H L e
          by_cells (inl e0) = by_word e0 (dec_eq (M.word v.1) 0)
          by_cells (inr (p, lead)) =
              let u : Row A = (v.0, K.sum (M.mark (length L)) v.1) in
              inl ((d.slot p lead).0, (d.slot p lead).1, (put_at S p u, (d.slot p lead).2 (put_at S p u) (put_at_lem S p u)))

  -- the slots of a block, with a state that stands for what it holds
  abbrev pub Standing : List (Row ℕ) → Type 0
  Standing H = (L : List (Row ℕ)) × InSlots H L × ((S : State A) × StandsFor M n H L S)

  -- a state with no bound cell
  blank : State A
  blank = record { bound = λ c. false; row = λ c. (rows K).none }

  -- entries that can be satisfied at once have both
  pub standing : (H : List (Row ℕ)) → FitsAll w n H → Solvable w n H → Standing H
  unfolding blank
  standing [] fits s = ([], refl, (blank, open_stands M n blank (λ c h. refl)))
  standing (e ∷ H) fits (f, below, sat) = go (standing H rest (f, below, λ x m. sat x (inr m)))
    where
      rest : FitsAll w n H
      rest x m = fits x (inr m)

      go : Standing H → Standing (e ∷ H)
      go (L, slots, (S, stands)) = by (verdict H L rest S stands e (fits e (inl refl)))
        where
          by : Verdict S H L e → Standing (e ∷ H)
          by (inl (s, b, next)) = (e ∷ L, (L, slots, inl (b, refl)), next)
          by (inr (inl (s, b, next))) = (L, (L, slots, inr (b, refl)), (S, next))
          by (inr (inr (s, t))) = absurd (s (f, below, sat))

  -- so has what is held
  pub held_standing : (E H : List (Row ℕ)) → FitsAll w n E → Held w n E H → Standing H
  held_standing E H fits held = standing H (held_fits w n E H fits held) (held_solvable (Solvable w n) (solvable_none w n) E H held)

  -- each run has a state
  pub run_state : (E H L : List (Row ℕ)) → FitsAll w n E → Run w n E H L → (S : State A) × StandsFor M n H L S
  run_state E H L fits run =
      let parts : Held w n E H × InSlots H L = run_parts w n E H L run in
      let r : Standing H = held_standing E H fits parts.0 in
      subst (λ (N : List (Row ℕ)). (S : State A) × StandsFor M n H N S) (in_slots_one H r.0 L r.1 parts.1) r.2

module _ (w n : ℕ) where
  -- what is held has slots
  pub slots_exist : (E H : List (Row ℕ)) → FitsAll w n E → Held w n E H → (L : List (Row ℕ)) × InSlots H L
  slots_exist E H fits held = let r : Standing lean_marks w n H = held_standing lean_marks w n E H fits held in (r.0, r.1)

  -- an entry that cannot be taken has one set of slots to blame
  pub run_conflict : (E H L : List (Row ℕ)) → FitsAll w n E → Run w n E H L → (e : Row ℕ) → Fits w n e → ¬ Solvable w n (e ∷ H)
      → (t : ℕ) × ConflictSet L e t × ((u : ℕ) → ConflictSet L e u → t ≡ u)
  run_conflict E H L fits run e fit none = go (run_state full_marks w n E H L fits run)
    where
      go : (S : State Full) × StandsFor full_marks n H L S → (t : ℕ) × ConflictSet L e t × ((u : ℕ) → ConflictSet L e u → t ≡ u)
      go (S, stands) = by (verdict full_marks w n H L (held_fits w n E H fits (run_held w n E H L run)) S stands e fit)
        where
          by : Verdict full_marks w n S H L e → (t : ℕ) × ConflictSet L e t × ((u : ℕ) → ConflictSet L e u → t ≡ u)
          by (inl (s, b, f)) = absurd (none s)
          by (inr (inl (s, b, f))) = absurd (none s)
          by (inr (inr (s, (v, r, e0, z)))) =
              let c : ConflictSet L e v.1.1 = full_blames n H L S stands e v r e0 z in
              (v.1.1, c, λ u d. conflict_one L stands.2 e v.1.1 u c d)
