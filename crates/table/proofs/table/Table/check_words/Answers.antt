use Rattle.std.proofs.Common.{◌≡◌, ◌+◌, ◌/◌, ◌^◌, ◌<◌, length, sym, refl, ap, ◌∙◌, subst, div-le_self, arith}
use Rattle.shapes.proofs.Limits.{shape_limits}
use Rattle.table.specs.Sizes.{width}
use Rattle.table.specs.Images.{words_in, below}
use Rattle.table.specs.Tables.{content}
use Rattle.table.proofs.Bounds.{cells_most}
use Rattle.table.proofs.Walks.{length_cut}
use Rattle.table.proofs.Openings.{words_are, fitting_not, fitting_is}
use Rattle.table.proofs.table.Table.check_words.Goals as goal
use Rattle.table.proofs.table.Table.check_words.Goals.{After-first_large}

-- the words that are looked through
same : (c : After-first_large) → words_in (width c.args.self.now.shape.dims) c.args.self.now.cells.now ≡ (content c.args.self.now).words
same c =
    let shape = c.args.self.now.shape in
    words_are shape.dims _ _ _ (shape_limits shape) refl refl c.args.self.now.whole

pub overflow_cast-result : goal.overflow_cast-result
overflow_cast-result c =
    let shape = c.args.self.now.shape in
    let cells = c.args.self.now.cells.now in
    let w = width shape.dims in
    omega (arith, c.in-Some.ensures.1, length_cut w (length cells / w) cells, div-le_self (length cells) w, c.args.self.now.whole, cells_most shape.dims (shape_limits shape))

pub returns-in-Some : goal.returns-in-Some
returns-in-Some c =
    let found = c.in-Some.ensures in
    let d = c.args.self.now.shape.dims in
    let words = same (goal.at.returns-in-Some c).After-first_large in
    sym (fitting_not (content c.args.self.now) c.in-Some.cell (sym (ap (below (2 ^ (d.s + d.r))) words) ∙ found.0)
    (subst (λ ws. c.in-Some.cell < length ws) words found.1))

pub returns-in-None : goal.returns-in-None
returns-in-None c =
    let d = c.args.self.now.shape.dims in
    let words = same (goal.at.returns-in-None c).After-first_large in
    sym (fitting_is (content c.args.self.now) (sym (ap (below (2 ^ (d.s + d.r))) words) ∙ (c.in-None.ensures ∙ ap length words)))
