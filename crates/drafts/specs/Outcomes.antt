-- What entering answers, by what is held.
use Rattle.std.specs.Prelude.{◌≡◌, ℕ, ◌⊎◌, List, ◌∷◌, length, Ok, Err, Result}
use Rattle.span.specs.Echelon.{Row}
use Rattle.span.specs.Slots.{Blame}
use Rattle.span.specs.Held.{Binds, InSlots}
use Rattle.span.specs.Blocks.{Placed, of, SolvableIn}
use Rattle.gf2.specs.Masks.{value}
use Rattle.shapes.specs.declared.fault.Fault.{Fault}
use Rattle.shapes.specs.declared.fault.Fault.TheVariants.{Conflict}
use Rattle.shapes.specs.declared.shape.Dims.{Dims}
use Rattle.drafts.specs.Entries.{answer_bits}

-- In the place of a slot: the entry is dependent. No block has so many slots.
abbrev pub dependent : ℕ
dependent = 65535

-- Some filling satisfies the entries, all at once.
abbrev pub Together : Dims → List Placed → Type 0
Together d H = SolvableIn (answer_bits d) d.n H

-- A taken entry that makes a cell bound takes a slot, numbered by the slots that its block had before; any other is dependent.
abbrev pub Taken : List Placed → Placed → Result (ℕ × ℕ) Fault → Type 0
Taken H x r =
    (Binds (of x.0 H) x.1 × ((L : List (Row ℕ)) × InSlots (of x.0 H) L × (r ≡ Ok (x.0, length L))))
    ⊎ ((¬ Binds (of x.0 H) x.1) × (r ≡ Ok (x.0, dependent)))

-- A conflict names the entry's block and a set of its slots, of which `blame` says what they have to do with the entry.
abbrev pub Conflicting : Blame → List Placed → Placed → Result (ℕ × ℕ) Fault → Type 0
Conflicting blame H x r =
    (L : List (Row ℕ)) × InSlots (of x.0 H) L × ((slots : List ℕ) × (r ≡ Err (Conflict x.0 slots)) × blame L x.1 (value slots))

-- An entry is taken when some filling satisfies every held entry and this one; otherwise it is a conflict.
abbrev pub Answered : Blame → Dims → List Placed → Placed → Result (ℕ × ℕ) Fault → Type 0
Answered blame d H x r = (Together d (x ∷ H) × Taken H x r) ⊎ ((¬ Together d (x ∷ H)) × Conflicting blame H x r)
