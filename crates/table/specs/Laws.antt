-- What holds of images and tables.
use Rattle.std.specs.Prelude.{◌≡◌, ℕ, ◌+◌, ◌^◌, ◌<◌, List, length, Ok, slice_index}
use Rattle.shapes.specs.Limits.{InLimits}
use Rattle.table.specs.Sizes.{cell_count}
use Rattle.table.specs.Images.{Content, image, opening}

-- A table: numbers within their limits, with a word of at most s + r bits for each cell.
pub record Sound (t : Content) : Type 0 where
  pub limits : InLimits t.dims
  pub count : length t.words ≡ cell_count t.dims
  pub small : (i : ℕ) → i < length t.words → slice_index t.words i < 2 ^ (t.dims.s + t.dims.r)

-- Each number is a byte.
abbrev pub Bytes : List ℕ → Type 0
Bytes bs = (i : ℕ) → slice_index bs i < 256

-- The image of a table opens as that table.
abbrev pub ImageOpensAsItsTable : Type 0
ImageOpensAsItsTable = (t : Content) → Sound t → opening (image t) ≡ Ok t

-- What bytes open as is a table, and they are its image: so two images that open as one table are equal.
abbrev pub OneImageForEachTable : Type 0
OneImageForEachTable =
    ((bs : List ℕ) (t : Content) → Bytes bs → opening bs ≡ Ok t → Sound t × (bs ≡ image t))
    × ((bs cs : List ℕ) (t : Content) → Bytes bs → Bytes cs → opening bs ≡ Ok t → opening cs ≡ Ok t → bs ≡ cs)
