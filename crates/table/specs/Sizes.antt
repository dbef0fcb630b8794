-- The sizes that follow from a shape's five numbers.
use Rattle.std.specs.Prelude.{ℕ, ◌+◌, ◌*◌, ◌/◌}
use Rattle.shapes.specs.declared.shape.Dims.{Dims}

-- The bytes of a cell: s + r bits, in whole bytes.
abbrev pub width : Dims → ℕ
width d = (d.s + d.r + 7) / 8

-- The cells of all blocks.
abbrev pub cell_count : Dims → ℕ
cell_count d = d.b * d.n

-- The bytes of all cells.
abbrev pub cells_length : Dims → ℕ
cells_length d = cell_count d * width d

-- The bytes before the cells.
abbrev pub header_length : ℕ
header_length = 8

-- The bytes of an image.
abbrev pub image_length : Dims → ℕ
image_length d = header_length + cells_length d
