-- How large the sizes of a shape are.
use Rattle.std.proofs.Common.{◌*◌, ◌≤◌, arith}
use Rattle.std.proofs.lemmas.Nat.{mul-le}
use Rattle.shapes.specs.Limits.{InLimits, most_cells, most_blocks}
use Rattle.shapes.specs.declared.shape.Dims.{Dims}
use Rattle.table.specs.Sizes.{width, cell_count, cells_length}

pub width_low : (d : Dims) → InLimits d → 1 ≤ width d
width_low d l = omega (arith, l.bits)

pub width_high : (d : Dims) → InLimits d → width d ≤ 8
width_high d l = omega (arith, l.s_high, l.r_high)

pub cells_most : (d : Dims) → InLimits d → cells_length d ≤ most_blocks * most_cells * 8
cells_most d l = mul-le (cell_count d) (width d) (most_blocks * most_cells) 8 (mul-le d.b d.n most_blocks most_cells l.b_high l.n_high) (width_high d l)
