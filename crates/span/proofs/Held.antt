-- What is held after enterings has a state; its bound cells go by what was entered, and its table by what is held.
use Rattle.std.proofs.Common.{◌≡◌, ℕ, ◌<◌, false, ◌↔◌, List, [], ◌∷◌, map, sym, refl, ap, subst, inl, inr, pow_pos}
use Rattle.span.specs.Kinds.{numbers, SameSpan, Member, SameEntries}
use Rattle.span.specs.Echelon.{Row, rows, State, Stands}
use Rattle.span.specs.Fillings.{Below, Solvable}
use Rattle.span.specs.Held.{cells_of, BoundBy, Fits, FitsAll, HeldBy, Held, IsTable}
use Rattle.span.proofs.Span.{span_entries, span_sym, span_trans, span_cons, span_absorb}
use Rattle.span.proofs.Bound.{cells_span, bound_span}
use Rattle.span.proofs.Solve.{start_stands, stands_solvable, table_fits, table_is, table_only, Outcome, outcome}
use Rattle.span.proofs.Table.{table}
use Rattle.span.proofs.Once.{held_one}

-- a held entry was entered
pub held_members : {V : Type 0} (can : List V → Type 0) (E H : List V) → HeldBy can E H → (v : V) → Member v H → Member v E
held_members can [] H p v m = subst (Member v) p m
held_members can (e ∷ E) H (G, held, inl (s, p)) v m = go (subst (Member v) p m) (held_members can E G held v)
  where
    go : Member v (e ∷ G) → (Member v G → Member v E) → Member v (e ∷ E)
    go (inl q) r = inl q
    go (inr k) r = inr (r k)
held_members can (e ∷ E) H (G, held, inr (s, p)) v m = inr (held_members can E G held v (subst (Member v) p m))

-- what is held can be held together
pub held_solvable : {V : Type 0} (can : List V → Type 0) → can [] → (E H : List V) → HeldBy can E H → can H
held_solvable can none [] H p = subst can (sym p) none
held_solvable can none (e ∷ E) H (G, held, inl (s, p)) = subst can (sym p) s
held_solvable can none (e ∷ E) H (G, held, inr (s, p)) = subst can (sym p) (held_solvable can none E G held)

-- the images are held where the test goes by the images
pub held_map : {V W : Type 0} (f : V → W) (can : List W → Type 0) (E H : List V) → HeldBy (λ G. can (map f G)) E H → HeldBy can (map f E) (map f H)
held_map f can [] H p = ap (map f) p
held_map f can (e ∷ E) H (G, held, inl (s, p)) = (map f G, held_map f can E G held, inl (s, ap (map f) p))
held_map f can (e ∷ E) H (G, held, inr (s, p)) = (map f G, held_map f can E G held, inr (s, ap (map f) p))

-- the state of a block that holds nothing
empty : State ℕ
empty = record { bound = λ c. false; row = λ c. (0, 0) }

-- a list of entries with a state, and whose cell sets have the same combinations as those of E
pub record Good (n : ℕ) (E H : List (Row ℕ)) : Type 0 where
  pub state : State ℕ
  pub stands : Stands numbers n H state
  pub span : SameSpan numbers (cells_of E) (cells_of H)

module _ (w n : ℕ) where
  -- an empty list of entries can be satisfied
  pub solvable_none : Solvable w n []
  solvable_none = (λ c. 0, λ c. pow_pos w, λ e m. absurd m)

  -- an entry that fits, with others that do
  pub fits_cons : (e : Row ℕ) (G : List (Row ℕ)) → Fits w n e → FitsAll w n G → FitsAll w n (e ∷ G)
  fits_cons e G h hs x (inl q) = subst (Fits w n) (sym q) h
  fits_cons e G h hs x (inr m) = hs x m

  -- what is held fits
  pub held_fits : (E H : List (Row ℕ)) → FitsAll w n E → Held w n E H → FitsAll w n H
  held_fits E H fits held x m = fits x (held_members (Solvable w n) E H held x m)

  -- after every list of enterings something is held, with a state
  pub held_exists : (E : List (Row ℕ)) → FitsAll w n E → (H : List (Row ℕ)) × Held w n E H × Good n E H
  unfolding empty
  held_exists [] fits = ([], refl, record { state = empty; stands = start_stands numbers n empty (λ c h. refl); span = λ v. (λ p. p, λ p. p) })
  held_exists (e ∷ E) fits = go (held_exists E rest)
    where
      rest : FitsAll w n E
      rest x m = fits x (inr m)

      go : (G : List (Row ℕ)) × Held w n E G × Good n E G → (H : List (Row ℕ)) × Held w n (e ∷ E) H × Good n (e ∷ E) H
      go (G, held, g) = by (outcome w n G g.state g.stands e (fits e (inl refl)).0)
        where
          cons : SameSpan numbers (e.0 ∷ cells_of E) (e.0 ∷ cells_of G)
          cons = span_cons numbers e.0 (cells_of E) (cells_of G) g.span

          by : Outcome w n G g.state g.stands e → (H : List (Row ℕ)) × Held w n (e ∷ E) H × Good n (e ∷ E) H
          by (inl (U, s)) = (
            e ∷ G,
            (G, held, inl (stands_solvable w n (e ∷ G) U s (fits_cons e G (fits e (inl refl)) (held_fits E G rest held)), refl)),
            record { state = U; stands = s; span = cons },
          )
          by (inr (no-filling, c)) = (
            G,
            (G, held, inr (λ s. no-filling s.0 s.2, refl)),
            record {
              state = g.state;
              stands = g.stands;
              span = span_trans numbers (e.0 ∷ cells_of E) (e.0 ∷ cells_of G) (cells_of G) cons (span_absorb numbers e.0 (cells_of G) c);
            },
          )

  -- what is held has a state
  pub good : (E H : List (Row ℕ)) → FitsAll w n E → Held w n E H → Good n E H
  good E H fits held =
      let r : (G : List (Row ℕ)) × Held w n E G × Good n E G = held_exists E fits in
      subst (Good n E) (held_one (Solvable w n) E r.0 H r.1 held) r.2

  -- the cells that are bound go by what was entered, taken or not
  pub bound_by_entered : (E H : List (Row ℕ)) → FitsAll w n E → Held w n E H → (c : ℕ) → BoundBy H c ↔ BoundBy E c
  bound_by_entered E H fits held = bound_span numbers H E (span_sym numbers (cells_of E) (cells_of H) (good E H fits held).span)

  -- the same enterings in another order, and however often, bind the same cells
  pub bound_any_order : (E F G H : List (Row ℕ)) → FitsAll w n E → Held w n E G → Held w n F H → SameEntries E F → (c : ℕ) → BoundBy G c ↔ BoundBy H c
  bound_any_order E F G H fits hg hh same c =
      let ef : BoundBy E c ↔ BoundBy F c = bound_span numbers E F (cells_span numbers E F (span_entries (rows numbers) E F same)) c in
      let ge : BoundBy G c ↔ BoundBy E c = bound_by_entered E G fits hg c in
      let hf : BoundBy H c ↔ BoundBy F c = bound_by_entered F H (λ x m. fits x ((same x).1 m)) hh c in
      (λ b. hf.1 (ef.0 (ge.0 b)), λ b. ge.1 (ef.1 (hf.0 b)))

  -- there is a table, of words of w bits
  pub table_exists : (E H : List (Row ℕ)) → FitsAll w n E → Held w n E H → (f : ℕ → ℕ) × Below w f × IsTable n H f
  table_exists E H fits held =
      let g : Good n E H = good E H fits held in
      (table n g.state, table_fits w n H g.state g.stands (held_fits E H fits held), table_is w n H g.state g.stands)

  -- blocks that hold the same entries have the same table
  pub table_same : (E F G H : List (Row ℕ)) → FitsAll w n E → Held w n E G → Held w n F H → SameEntries G H
      → (f g : ℕ → ℕ) → IsTable n G f → IsTable n H g → (c : ℕ) → c < n → f c ≡ g c
  table_same E F G H fits hg hh same f g tf tg =
      let run : Good n E G = good E G fits hg in
      table_only w n G run.state run.stands f g tf
      (λ e m. tg.0 e ((same e).0 m), λ c cn nb. tg.1 c cn (λ b. nb ((bound c).1 b)))
    where
      bound : (c : ℕ) → BoundBy G c ↔ BoundBy H c
      bound = bound_span numbers G H (cells_span numbers G H (span_entries (rows numbers) G H same))
