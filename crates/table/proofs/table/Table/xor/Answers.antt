use Rattle.std.proofs.Common.{ℕ, ◌*◌, ap, ◌∙◌, ap₂}
use Rattle.shapes.proofs.Limits.{shape_limits}
use Rattle.gf2.specs.Masks.{mask}
use Rattle.table.specs.Sizes.{width}
use Rattle.table.specs.Questions.{xor_in}
use Rattle.table.proofs.Bounds.{width_low}
use Rattle.table.proofs.Blocks.{part, xor_part}
use Rattle.table.proofs.table.Table.xor.Goals as goal

pub returns : goal.returns
returns c =
    let table = c.args.self.now in
    let shape = table.shape in
    let block = c.args.block in
    let m = mask c.args.cells in
    c.xor_cells.ensures
    ∙ (ap₂ (λ (n w : ℕ). xor_in (width shape.dims) (part (n * w) block table.cells.now) m) (ap (λ d. d.n) c.dims.ensures.same) c.cell_width-width.ensures
    ∙ xor_part shape.dims block m table.cells.now (width_low shape.dims (shape_limits shape)) c.requires table.whole)
