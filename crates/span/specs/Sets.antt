-- A set of cells, or of slots, as one number: c is in the set m where bit c of m is 1.
use Rattle.std.specs.Prelude.{◌≡◌, Bool, true, false, ℕ, zero, suc, ◌/◌, ◌%◌, ◌^◌, ◌≤◌, ◌<◌}

-- A binary digit as a truth value.
abbrev pub is_one : ℕ → Bool
is_one zero = false
is_one (suc d) = true

-- Whether c is in the set m.
unfoldable pub has : ℕ → ℕ → Bool
has m c = is_one (m / 2 ^ c % 2)

-- Exactly one of the two is true.
abbrev pub differs : Bool → Bool → Bool
differs true true = false
differs true false = true
differs false b = b

-- c is the lowest member of m.
abbrev pub Lowest : ℕ → ℕ → Type 0
Lowest m c = (has m c ≡ true) × ((d : ℕ) → d < c → has m d ≡ false)

-- Every member of m is below n.
abbrev pub Within : ℕ → ℕ → Type 0
Within n m = (c : ℕ) → n ≤ c → has m c ≡ false
