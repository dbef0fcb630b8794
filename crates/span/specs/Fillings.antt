-- Words in the cells of a block, and what satisfies an entry.
use Rattle.std.specs.Prelude.{◌≡◌, Bool, true, false, List, ℕ, zero, suc, ◌^◌, ◌≤◌, ◌<◌}
use Rattle.std.specs.Int.Bits.{bit_xor}
use Rattle.span.specs.Sets.{has}
use Rattle.span.specs.Kinds.{Member}
use Rattle.span.specs.Echelon.{Row, State}

-- The word where the test is true, and 0 otherwise.
abbrev pub pick : Bool → ℕ → ℕ
pick true w = w
pick false w = 0

-- The XOR of the words f c over the cells c below n that are in the set m; 0 where there is none.
unfoldable pub xor_over : (ℕ → ℕ) → ℕ → ℕ → ℕ
xor_over f zero m = 0
xor_over f (suc k) m = bit_xor (pick (has m k) (f k)) (xor_over f k m)

-- The filling satisfies the entry: its words over the entry's cells XOR to the entry's answer.
abbrev pub Satisfies : ℕ → (ℕ → ℕ) → Row ℕ → Type 0
Satisfies n f e = xor_over f n e.0 ≡ e.1

-- The filling satisfies each entry of the list.
abbrev pub SatisfiesAll : ℕ → (ℕ → ℕ) → List (Row ℕ) → Type 0
SatisfiesAll n f H = (e : Row ℕ) → Member e H → Satisfies n f e

-- Each word has at most w bits.
abbrev pub Below : ℕ → (ℕ → ℕ) → Type 0
Below w f = (c : ℕ) → f c < 2 ^ w

-- Some filling of words of w bits satisfies all entries.
abbrev pub Solvable : ℕ → ℕ → List (Row ℕ) → Type 0
Solvable w n H = (f : ℕ → ℕ) × Below w f × SatisfiesAll n f H

-- The filling satisfies each bound cell's row.
abbrev pub SatisfiesRows : ℕ → State ℕ → (ℕ → ℕ) → Type 0
SatisfiesRows n S f = (c : ℕ) → c < n → S.bound c ≡ true → Satisfies n f (S.row c)

-- The filling has zero in every free cell.
abbrev pub ZeroInFree : ℕ → State ℕ → (ℕ → ℕ) → Type 0
ZeroInFree n S f = (c : ℕ) → c < n → S.bound c ≡ false → f c ≡ 0

-- The word that substitution gives the cell c: zero where it is free, and otherwise what its row's answer lacks over the row's other cells.
abbrev pub substituted : ℕ → State ℕ → (ℕ → ℕ) → ℕ → ℕ
substituted n S f c = pick (S.bound c) (bit_xor (S.row c).1 (xor_over f n (bit_xor (S.row c).0 (2 ^ c))))

-- From the cell k on, each cell has the word that substitution gives it.
abbrev pub SubstitutedFrom : ℕ → ℕ → State ℕ → (ℕ → ℕ) → Type 0
SubstitutedFrom k n S f = (c : ℕ) → k ≤ c → c < n → f c ≡ substituted n S f c
