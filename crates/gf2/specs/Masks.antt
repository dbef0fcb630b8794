-- A set of cells as a number, the mask: cell c is in the set where bit c of the mask is 1.
use Rattle.std.specs.Prelude.{◌≡◌, ℕ, ◌+◌, ◌*◌, ◌^◌, ◌<◌, ◌≤◌, true, false, cond, List, [], ◌∷◌, bit_xor, nat_lt, slice_index}
use Rattle.span.specs.Sets.{has}
use Rattle.gf2.specs.declared.sets.CellSet.{CellSet}

-- Each word has 64 bits.
abbrev pub Fit : List ℕ → Type 0
Fit ws = (i : ℕ) → slice_index ws i < 2 ^ 64

-- The number that words of 64 bits stand for, the low word first.
unfoldable pub value : List ℕ → ℕ
value [] = 0
value (w ∷ ws) = value ws * 2 ^ 64 + w

-- The mask of a set.
abbrev pub mask : CellSet → ℕ
mask s = value s.words

-- The cells of a set are below this number.
abbrev pub width : ℕ
width = 256

-- The mask m with cell c put in, or taken out where it was in, if c is below w.
abbrev pub toggled_in : ℕ → ℕ → ℕ → ℕ
toggled_in w m c = cond (nat_lt c w) (bit_xor m (2 ^ c)) m

-- No cell from i up to j is in both sets.
abbrev pub NoCommon : ℕ → ℕ → ℕ → ℕ → Type 0
NoCommon a b i j = (c : ℕ) → i ≤ c → c < j → has b c ≡ true → has a c ≡ false

-- No cell from i on is in both sets.
abbrev pub NoneCommon : ℕ → ℕ → ℕ → Type 0
NoneCommon a b i = (j : ℕ) → NoCommon a b i j

-- c is the first cell from i on that is in both sets, whose cells are below w.
pub record FirstCommon (w a b i c : ℕ) : Type 0 where
  pub below : c < w
  pub from_on : i ≤ c
  pub left : has a c ≡ true
  pub right : has b c ≡ true
  pub none_before : NoCommon a b i c

-- r is the set m with the cell c put in.
pub record PutIn (m c r : ℕ) : Type 0 where
  pub here : has r c ≡ true
  pub elsewhere : (d : ℕ) → ¬ (d ≡ c) → has r d ≡ has m d
