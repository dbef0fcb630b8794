-- The limits of a shape's five numbers: n cells in a block, k draws for a key, s check bits, r notice bits, b blocks.
use Rattle.std.specs.Prelude.{ℕ, ◌+◌, ◌≤◌, cond, ◌||◌, Option, Some, None, Ok, Err, Result, nat_lt}
use Rattle.std.specs.Result.{result_map_both}
use Rattle.shapes.specs.declared.fault.Fault.{Fault}
use Rattle.shapes.specs.declared.limit.Limit.{Limit}
use Rattle.shapes.specs.declared.limit.Limit.TheVariants.{Cells, Draws, CheckBits, NoticeBits, Blocks}
use Rattle.shapes.specs.declared.shape.Dims.{Dims}
use Rattle.shapes.specs.declared.shape.Shape.{Shape}

-- The most cells in a block.
abbrev pub most_cells : ℕ
most_cells = 256

-- The most blocks.
abbrev pub most_blocks : ℕ
most_blocks = 64

-- All five are within their limits.
pub record InLimits (d : Dims) : Type 0 where
  pub n_low : 1 ≤ d.n
  pub n_high : d.n ≤ most_cells
  pub k_low : 1 ≤ d.k
  pub k_high : d.k ≤ 8
  pub s_high : d.s ≤ 32
  pub r_high : d.r ≤ 32
  pub bits : 1 ≤ d.s + d.r
  pub b_low : 1 ≤ d.b
  pub b_high : d.b ≤ most_blocks

-- The place of each number in a fault, in the order n, k, s, r, b.
abbrev pub place_of : Limit → ℕ
place_of Cells = 1
place_of Draws = 2
place_of CheckBits = 3
place_of NoticeBits = 4
place_of Blocks = 5

-- The first number outside its limits, in that order, if there is one. That s and r are both 0 counts at r.
abbrev pub outside : Dims → Option Limit
outside d =
    cond (nat_lt d.n 1 || nat_lt most_cells d.n) (Some Cells)
    (cond (nat_lt d.k 1 || nat_lt 8 d.k) (Some Draws)
    (cond (nat_lt 32 d.s) (Some CheckBits)
    (cond (nat_lt 32 d.r || nat_lt (d.s + d.r) 1) (Some NoticeBits)
    (cond (nat_lt d.b 1 || nat_lt most_blocks d.b) (Some Blocks) None))))

-- The value where nothing is found, or else what `refuse` makes of it.
abbrev pub unless : {T U E : Type 0} → Option U → (U → E) → T → Result T E
unless None refuse x = Ok x
unless (Some y) refuse x = Err (refuse y)

-- The numbers, or what `refuse` makes of the first that is outside its limits.
abbrev pub limited_by : {E : Type 0} → (Limit → E) → Dims → Result Dims E
limited_by refuse d = unless (outside d) refuse d

-- With a fault that carries it.
abbrev pub limited : (Limit → Fault) → Dims → Result Dims Fault
limited = limited_by

-- The numbers of the shape that a call answers.
abbrev pub dims_in : {E : Type 0} → Result Shape E → Result Dims E
dims_in = result_map_both (λ shape. shape.dims) (λ e. e)
