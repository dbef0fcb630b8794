-- What one block holds after a list of enterings, its bound cells, its slots and its table, said of the entries alone.
use Rattle.std.specs.Prelude.{◌≡◌, ◌⊎◌, List, [], ◌∷◌, map, ℕ, zero, suc, ◌^◌, ◌<◌}
use Rattle.span.specs.Sets.{Within}
use Rattle.span.specs.Lead.{Lead}
use Rattle.span.specs.Kinds.{numbers, Comb, Member}
use Rattle.span.specs.Echelon.{Row}
use Rattle.span.specs.Fillings.{SatisfiesAll, Solvable}

-- The cell set of a row.
abbrev pub cells : {A : Type 0} → Row A → ℕ
cells e = e.0

-- The cell sets of a list of entries.
abbrev pub cells_of : {A : Type 0} → List (Row A) → List ℕ
cells_of H = map cells H

-- Some combination of the entries' cell sets has c as its lead cell.
abbrev pub BoundBy : {A : Type 0} → List (Row A) → ℕ → Type 0
BoundBy H c = (m : ℕ) × Comb numbers (cells_of H) m × Lead m c

-- The entry makes some cell bound that was free.
abbrev pub Binds : {A : Type 0} → List (Row A) → Row A → Type 0
Binds H e = (c : ℕ) × BoundBy (e ∷ H) c × (¬ BoundBy H c)

-- The entry's cells are below n, and its answer has at most w bits.
abbrev pub Fits : ℕ → ℕ → Row ℕ → Type 0
Fits w n e = Within n e.0 × (e.1 < 2 ^ w)

-- Each entry of the list fits.
abbrev pub FitsAll : ℕ → ℕ → List (Row ℕ) → Type 0
FitsAll w n H = (e : Row ℕ) → Member e H → Fits w n e

-- H is what is held after the enterings E, the newest first: an entry is taken where it can be held with all that is held, and no other is.
abbrev pub HeldBy : {V : Type 0} → (List V → Type 0) → List V → List V → Type 0
HeldBy can [] H = H ≡ []
HeldBy {V} can (e ∷ E) H = (G : List V) × HeldBy can E G × ((can (e ∷ G) × (H ≡ e ∷ G)) ⊎ ((¬ can (e ∷ G)) × (H ≡ G)))

-- What is held in one block: entries can be held together where some filling satisfies them all.
abbrev pub Held : ℕ → ℕ → List (Row ℕ) → List (Row ℕ) → Type 0
Held w n E H = HeldBy (Solvable w n) E H

-- f is the table of the entries H: it satisfies them all and has zero in every cell that they do not bind.
abbrev pub IsTable : ℕ → List (Row ℕ) → (ℕ → ℕ) → Type 0
IsTable n H f = SatisfiesAll n f H × ((c : ℕ) → c < n → ¬ BoundBy H c → f c ≡ 0)

-- L are the entries in the slots of a block that holds H, each the newest first: those that made a cell bound.
abbrev pub InSlots : List (Row ℕ) → List (Row ℕ) → Type 0
InSlots [] L = L ≡ []
InSlots (e ∷ H) L = (M : List (Row ℕ)) × InSlots H M × ((Binds H e × (L ≡ e ∷ M)) ⊎ ((¬ Binds H e) × (L ≡ M)))

-- What one entering e makes of G held and M in the slots: a taken entry that makes a cell bound takes a slot,
-- another taken one is dependent, and a conflict changes nothing.
abbrev pub Enters : ℕ → ℕ → List (Row ℕ) → List (Row ℕ) → Row ℕ → List (Row ℕ) → List (Row ℕ) → Type 0
Enters w n G M e H L =
    (Solvable w n (e ∷ G) × (H ≡ e ∷ G) × ((Binds G e × (L ≡ e ∷ M)) ⊎ ((¬ Binds G e) × (L ≡ M))))
    ⊎ ((¬ Solvable w n (e ∷ G)) × (H ≡ G) × (L ≡ M))

-- After the enterings E, H is held and L are the entries in the slots, each the newest first.
abbrev pub Run : ℕ → ℕ → List (Row ℕ) → List (Row ℕ) → List (Row ℕ) → Type 0
Run w n [] H L = (H ≡ []) × (L ≡ [])
Run w n (e ∷ E) H L = (G : List (Row ℕ)) × (M : List (Row ℕ)) × Run w n E G M × Enters w n G M e H L

-- k of the cells below n are bound by the entries.
abbrev pub CountBound : {A : Type 0} → List (Row A) → ℕ → ℕ → Type 0
CountBound H zero k = k ≡ 0
CountBound H (suc n) k = (BoundBy H n × ((j : ℕ) × CountBound H n j × (k ≡ suc j))) ⊎ ((¬ BoundBy H n) × CountBound H n k)
