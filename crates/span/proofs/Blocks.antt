-- Several blocks: each goes by its own entries.
use Rattle.std.proofs.Common.{◌≡◌, ℕ, ◌<◌, Bool, true, false, T, eqb, ◌⊎◌, ◌↔◌, List, [], ◌∷◌, sym, refl, ap, ◌∙◌, subst, subst₂, inl, inr, eqb→eq, eq-eqb, ne_eqb}
use Rattle.span.specs.Kinds.{Member, SameEntries}
use Rattle.span.specs.Echelon.{Row, put}
use Rattle.span.specs.Fillings.{SatisfiesAll, Below, Solvable}
use Rattle.span.specs.Held.{FitsAll, Held, IsTable}
use Rattle.span.specs.Blocks.{Placed, of, SatisfiesEach, SolvableIn, HeldIn, FitsIn, BoundIn, IsTableIn}
use Rattle.span.proofs.Held.{held_solvable, solvable_none, bound_any_order, table_exists, table_same}

-- an entry of the block's list is an entry of the whole list, with the block
pub of_member : (b : ℕ) (H : List Placed) (e : Row ℕ) → Member e (of b H) → Member (b, e) H
of_member b [] e m = m
of_member b (x ∷ H) e m = go (eqb x.0 b) refl m (of_member b H e)
  where
    go : (t : Bool) → eqb x.0 b ≡ t → Member e (put t x.1 (of b H)) → (Member e (of b H) → Member (b, e) H) → Member (b, e) (x ∷ H)
    go true q (inl p) r = inl (λ i. (sym (eqb→eq x.0 b (subst T (sym q) tt)) i, p i))
    go true q (inr p) r = inr (r p)
    go false q p r = inr (r p)

-- an entry of the whole list stands in its block's list
pub member_of : (H : List Placed) (x : Placed) → Member x H → Member x.1 (of x.0 H)
member_of [] x m = m
member_of (y ∷ H) x (inl p) =
    subst (λ (t : Bool). Member x.1 (put t y.1 (of x.0 H))) (sym same) (inl (ap (λ (z : Placed). z.1) p))
  where
    same : eqb y.0 x.0 ≡ true
    same = ap (λ (z : Placed). eqb y.0 z.0) p ∙ eq-eqb y.0 y.0 refl
member_of (y ∷ H) x (inr m) = go (eqb y.0 x.0) (member_of H x m)
  where
    go : (t : Bool) → Member x.1 (of x.0 H) → Member x.1 (put t y.1 (of x.0 H))
    go true p = inr p
    go false p = p

-- a filling of all blocks satisfies all entries when each block's words satisfy the block's
pub satisfies_of : (n : ℕ) (g : ℕ → ℕ → ℕ) (H : List Placed) → SatisfiesEach n g H ↔ ((b : ℕ) → SatisfiesAll n (g b) (of b H))
satisfies_of n g H = (λ s b e m. s (b, e) (of_member b H e m), λ s x m. s x.0 x.1 (member_of H x m))

-- all entries can be satisfied at once when each block's can
pub solvable_of : (w n : ℕ) (H : List Placed) → SolvableIn w n H ↔ ((b : ℕ) → Solvable w n (of b H))
solvable_of w n H = (
  λ s b. (s.0 b, s.1 b, (satisfies_of n s.0 H).0 s.2 b),
  λ s. (λ b. (s b).0, λ b. (s b).1, (satisfies_of n (λ b. (s b).0) H).1 (λ b. (s b).2)),
)

-- an empty list of entries can be satisfied
pub solvable_in_none : (w n : ℕ) → SolvableIn w n []
solvable_in_none w n = (solvable_of w n []).1 (λ b. solvable_none w n)

-- an entry can be taken when its own block can take it
taken_of : (w n : ℕ) (x : Placed) (G : List Placed) → SolvableIn w n G → Solvable w n (x.1 ∷ of x.0 G) → SolvableIn w n (x ∷ G)
taken_of w n x G all t = (solvable_of w n (x ∷ G)).1 (λ b. go b (eqb x.0 b) refl)
  where
    go : (b : ℕ) (q : Bool) → eqb x.0 b ≡ q → Solvable w n (put q x.1 (of b G))
    go b true q = subst (λ (k : ℕ). Solvable w n (x.1 ∷ of k G)) (eqb→eq x.0 b (subst T (sym q) tt)) t
    go b false q = (solvable_of w n G).0 all b

-- what is held can be satisfied
pub solvable_held : (w n : ℕ) (E H : List Placed) → HeldIn w n E H → SolvableIn w n H
solvable_held w n E H held = held_solvable (SolvableIn w n) (solvable_in_none w n) E H held

-- the block of an entry, and another block
pub of_own : (x : Placed) (G : List Placed) → of x.0 (x ∷ G) ≡ x.1 ∷ of x.0 G
of_own x G = ap (λ (t : Bool). put t x.1 (of x.0 G)) (eq-eqb x.0 x.0 refl)

pub of_other : (x : Placed) (G : List Placed) (b : ℕ) → ¬ (x.0 ≡ b) → of b (x ∷ G) ≡ of b G
of_other x G b ne = ap (λ (t : Bool). put t x.1 (of b G)) (ne_eqb x.0 b ne)

-- whether an entry can be taken is decided by its own block
pub own_decides : (w n : ℕ) (H : List Placed) → SolvableIn w n H → (x : Placed) → SolvableIn w n (x ∷ H) ↔ Solvable w n (x.1 ∷ of x.0 H)
own_decides w n H all x = (
  λ s. subst (Solvable w n) (of_own x H) ((solvable_of w n (x ∷ H)).0 s x.0),
  taken_of w n x H all,
)

-- each block holds what its own enterings make it hold
pub held_of : (w n : ℕ) (E H : List Placed) → HeldIn w n E H → (b : ℕ) → Held w n (of b E) (of b H)
held_of w n [] H e b = ap (of b) e
held_of w n (x ∷ E) H (G, held, last) b = go (eqb x.0 b) refl last (held_of w n E G held b)
  where
    own : eqb x.0 b ≡ true → x.0 ≡ b
    own q = eqb→eq x.0 b (subst T (sym q) tt)

    go : (q : Bool) → eqb x.0 b ≡ q → (SolvableIn w n (x ∷ G) × (H ≡ x ∷ G)) ⊎ ((¬ SolvableIn w n (x ∷ G)) × (H ≡ G))
        → Held w n (of b E) (of b G) → Held w n (put q x.1 (of b E)) (of b H)
    go true q (inl (s, p)) r = (
      of b G,
      r,
      inl (
        subst (λ (t : Bool). Solvable w n (put t x.1 (of b G))) q ((solvable_of w n (x ∷ G)).0 s b),
        ap (of b) p ∙ ap (λ (t : Bool). put t x.1 (of b G)) q,
      ),
    )
    go true q (inr (s, p)) r =
        (of b G, r, inr (λ t. s (taken_of w n x G (solvable_held w n E G held) (subst (λ (k : ℕ). Solvable w n (x.1 ∷ of k G)) (sym (own q)) t)), ap (of b) p))
    go false q (inl (s, p)) r = subst (Held w n (of b E)) (sym (ap (of b) p ∙ ap (λ (t : Bool). put t x.1 (of b G)) q)) r
    go false q (inr (s, p)) r = subst (Held w n (of b E)) (sym (ap (of b) p)) r

-- each block's entries fit
pub fits_of : (w n : ℕ) (E : List Placed) → FitsIn w n E → (b : ℕ) → FitsAll w n (of b E)
fits_of w n E fits b e m = fits (b, e) (of_member b E e m)

-- the same entries, block by block
pub same_of : (G H : List Placed) → SameEntries G H → (b : ℕ) → SameEntries (of b G) (of b H)
same_of G H same b e =
    (λ m. member_of H (b, e) ((same (b, e)).0 (of_member b G e m)), λ m. member_of G (b, e) ((same (b, e)).1 (of_member b H e m)))

-- the table of all blocks is the table of each
pub table_of : (n : ℕ) (H : List Placed) (g : ℕ → ℕ → ℕ) → IsTableIn n H g ↔ ((b : ℕ) → IsTable n (of b H) (g b))
table_of n H g =
    (λ t b. ((satisfies_of n g H).0 t.0 b, t.1 b), λ t. ((satisfies_of n g H).1 (λ b. (t b).0), λ b. (t b).1))

module _ (w n : ℕ) where
  -- the same enterings in another order, and however often, bind the same cells of each block
  pub bound_in_any_order : (E F G H : List Placed) → FitsIn w n E → HeldIn w n E G → HeldIn w n F H → SameEntries E F → (b c : ℕ) → BoundIn G b c ↔ BoundIn H b c
  bound_in_any_order E F G H fits hg hh same b =
      bound_any_order w n (of b E) (of b F) (of b G) (of b H) (fits_of w n E fits b) (held_of w n E G hg b) (held_of w n F H hh b) (same_of E F same b)

  -- after every run there is a table
  pub table_in_exists : (E H : List Placed) → FitsIn w n E → HeldIn w n E H → (g : ℕ → ℕ → ℕ) × ((b : ℕ) → Below w (g b)) × IsTableIn n H g
  table_in_exists E H fits held =
      (λ b. (at b).0, λ b. (at b).1, (table_of n H (λ b. (at b).0)).1 (λ b. (at b).2))
    where
      at : (b : ℕ) → (f : ℕ → ℕ) × Below w f × IsTable n (of b H) f
      at b = table_exists w n (of b E) (of b H) (fits_of w n E fits b) (held_of w n E H held b)

  -- drafts that hold the same entries have the same table
  pub table_in_same : (E F G H : List Placed) → FitsIn w n E → HeldIn w n E G → HeldIn w n F H → SameEntries G H
      → (f g : ℕ → ℕ → ℕ) → IsTableIn n G f → IsTableIn n H g → (b c : ℕ) → c < n → f b c ≡ g b c
  table_in_same E F G H fits hg hh same f g tf tg b =
      table_same w n (of b E) (of b F) (of b G) (of b H) (fits_of w n E fits b) (held_of w n E G hg b) (held_of w n F H hh b) (same_of G H same b)
      (f b) (g b) ((table_of n G f).0 tf b) ((table_of n H g).0 tg b)

  -- fewer entries can be satisfied too
  solvable_less : (x : Placed) (E : List Placed) → SolvableIn w n (x ∷ E) → SolvableIn w n E
  solvable_less x E (g, below, sat) = (g, below, λ y m. sat y (inr m))

  -- the same entries can be satisfied too
  solvable_same : (E F : List Placed) → SameEntries E F → SolvableIn w n E → SolvableIn w n F
  solvable_same E F same (g, below, sat) = (g, below, λ y m. sat y ((same y).1 m))

  -- enterings that can all be satisfied at once are all held
  pub all_held : (E H : List Placed) → SolvableIn w n E → HeldIn w n E H → H ≡ E
  all_held [] H s e = e
  all_held (x ∷ E) H s (G, held, last) = go last (all_held E G (solvable_less x E s) held)
    where
      go : (SolvableIn w n (x ∷ G) × (H ≡ x ∷ G)) ⊎ ((¬ SolvableIn w n (x ∷ G)) × (H ≡ G)) → G ≡ E → H ≡ x ∷ E
      go (inl (t, q)) p = q ∙ ap (λ (F : List Placed). x ∷ F) p
      go (inr (t, q)) p = absurd (t (subst (λ (F : List Placed). SolvableIn w n (x ∷ F)) (sym p) s))

  -- in any order, and with the same table
  pub all_held_in_any_order : (E F G H : List Placed) → FitsIn w n E → SolvableIn w n E → SameEntries E F → HeldIn w n E G → HeldIn w n F H
      → (G ≡ E) × (H ≡ F) × ((f g : ℕ → ℕ → ℕ) → IsTableIn n G f → IsTableIn n H g → (b c : ℕ) → c < n → f b c ≡ g b c)
  all_held_in_any_order E F G H fits s same hg hh =
      (ge, hf, table_in_same E F G H fits hg hh (subst₂ SameEntries (sym ge) (sym hf) same))
    where
      ge : G ≡ E
      ge = all_held E G s hg

      hf : H ≡ F
      hf = all_held F H (solvable_same E F same s) hh
