-- The limits of a checked shape, as the definitions say them.
use Rattle.shapes.specs.Limits.{InLimits}
use Rattle.shapes.specs.declared.shape.Shape.{Shape}

pub shape_limits : (shape : Shape) → InLimits shape.dims
shape_limits shape = record {
  n_low = shape.cells.0;
  n_high = shape.cells.1;
  k_low = shape.draws.0;
  k_high = shape.draws.1;
  s_high = shape.bits.0;
  r_high = shape.bits.1;
  bits = shape.bits.2;
  b_low = shape.count.0;
  b_high = shape.count.1;
}
