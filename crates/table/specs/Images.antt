-- A table's content, its image as bytes, and what a run of bytes opens as.
use Rattle.std.specs.Prelude.{◌≡◌, ℕ, zero, suc, ◌+◌, ◌*◌, ◌/◌, ◌%◌, ◌^◌, ◌<◌, cond, ◌&&◌, List, [], ◌∷◌, ◌++◌, length, take, drop, Ok, Err, Option, Result, MatchOption, ◌==◌, nat_le, nat_lt, slice_index, is_ok}
use Rattle.std.specs.List.{flat_map}
use Rattle.std.specs.Int.Digits.{number_from_digits}
use Rattle.shapes.specs.Limits.{limited}
use Rattle.shapes.specs.Results.{and_then}
use Rattle.shapes.specs.declared.fault.Fault.{Fault}
use Rattle.shapes.specs.declared.fault.Fault.TheVariants.{NoHeader, HeaderLimit, ImageLength, LargeCell}
use Rattle.shapes.specs.declared.shape.Dims.{Dims}
use Rattle.table.specs.declared.store.WrongLength.{WrongLength}
use Rattle.table.specs.Sizes.{width, cell_count, cells_length, header_length, image_length}

-- What a table holds: a shape's five numbers, and a word for each cell, block after block.
pub record Content : Type 0 where
  pub dims : Dims
  pub words : List ℕ

-- ---- the image of a table

-- The first byte of an image.
abbrev pub version : ℕ
version = 1

-- A number in w bytes, the high byte first.
abbrev pub bytes_of : ℕ → ℕ → List ℕ
bytes_of zero x = []
bytes_of (suc w) x = bytes_of w (x / 256) ++ (x % 256 ∷ [])

-- The eight bytes of the header: n and b take two each.
abbrev pub header : Dims → List ℕ
header d = version ∷ d.k ∷ d.n / 256 ∷ d.n % 256 ∷ d.s ∷ d.r ∷ d.b / 256 ∷ d.b % 256 ∷ []

-- The header, and then the cells, each word in `width` bytes.
abbrev pub image : Content → List ℕ
image t = header t.dims ++ flat_map (bytes_of (width t.dims)) t.words

-- The bytes are put where there is room for exactly them; otherwise nothing is altered.
pub record Stored (bytes old : List ℕ) (r : Result (Unit {0}) WrongLength) (new : List ℕ) : Type 0 where
  pub told : is_ok r ≡ (length old == length bytes)
  pub put : new ≡ cond (is_ok r) bytes old

-- ---- what bytes open as

-- The words of the first m cells of w bytes.
abbrev pub cut : ℕ → ℕ → List ℕ → List ℕ
cut w zero bs = []
cut w (suc m) bs = number_from_digits 256 (take w bs) ∷ cut w m (drop w bs)

-- The words of all cells of w bytes.
abbrev pub words_in : ℕ → List ℕ → List ℕ
words_in w bs = cut w (length bs / w) bs

-- What the bytes of the cells hold at a shape.
abbrev pub content_of : Dims → List ℕ → Content
content_of d cells = record { dims = d; words = cut (width d) (cell_count d) cells }

-- The five numbers in the first eight bytes.
abbrev pub headed : List ℕ → Dims
headed bs = record {
  n = slice_index bs 2 * 256 + slice_index bs 3;
  k = slice_index bs 1;
  s = slice_index bs 4;
  r = slice_index bs 5;
  b = slice_index bs 6 * 256 + slice_index bs 7;
}

-- First check: there are eight bytes, and the first is the version.
abbrev pub heading : List ℕ → Result Dims Fault
heading bs = cond (nat_le header_length (length bs) && slice_index bs 0 == version) (Ok (headed bs)) (Err NoHeader)

-- Second and third check: the numbers are within their limits, and there are as many bytes of cells as they ask for.
abbrev pub sizing : Dims → List ℕ → Result Dims Fault
sizing d cells =
    and_then (limited HeaderLimit d)
    (λ e. cond (length cells == cells_length e) (Ok e) (Err (ImageLength (image_length e))))

-- How many words there are before the first that is not below the limit.
abbrev pub below : ℕ → List ℕ → ℕ
below limit [] = zero
below limit (x ∷ xs) = cond (nat_lt x limit) (suc (below limit xs)) zero

-- What was found is the place of the first word that is not below the limit, where there is one.
abbrev pub First : ℕ → List ℕ → Option ℕ → Type 0
First limit xs found = MatchOption found (below limit xs ≡ length xs) (λ i. (below limit xs ≡ i) × (i < length xs))

-- The first cell whose word has more than s + r bits, or the number of cells where none has.
abbrev pub first_large : Content → ℕ
first_large t = below (2 ^ (t.dims.s + t.dims.r)) t.words

-- Fourth check: every word has at most s + r bits.
abbrev pub fitting : Content → Result Content Fault
fitting t = cond (first_large t == length t.words) (Ok t) (Err (LargeCell (first_large t)))

-- The content of the table that the bytes open as, or the fault of the first check that fails.
abbrev pub opening : List ℕ → Result Content Fault
opening bs =
    and_then (heading bs) (λ d. and_then (sizing d (drop header_length bs)) (λ e. fitting (content_of e (drop header_length bs))))
