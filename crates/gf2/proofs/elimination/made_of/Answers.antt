use Rattle.std.proofs.Common.{rules}
use Rattle.gf2.specs.Masks.{mask}
use Rattle.gf2.proofs.Filled.{made_bound, made_free}
use Rattle.gf2.proofs.Values.{inside}
use Rattle.gf2.proofs.elimination.made_of.Goals as goal

pub returns-then-contains : goal.returns-then-contains
returns-then-contains g c =
    made_bound g.K.Marked.view g.K.Marked.marks c.args.row c.args.bound c.args.cell c.if-contains.ensures
    (inside c.args.bound.words c.args.cell (search rules) (search rules) c.if-contains.ensures)
    (mask c.toggled.result) c.word.result c.toggled.ensures c.word.ensures

pub returns-else-contains : goal.returns-else-contains
returns-else-contains g c =
    made_free g.K.Marked.view g.K.Marked.marks c.args.row c.args.bound c.args.cell c.if-contains.ensures (mask c.empty.result) c.empty.ensures
