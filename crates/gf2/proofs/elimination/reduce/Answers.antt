use Rattle.gf2.specs.Masks.{width}
use Rattle.gf2.proofs.States.{upto_start, upto_add}
use Rattle.gf2.proofs.elimination.reduce.Goals as goal

pub loop-cell-init : goal.loop-cell-init
loop-cell-init g c = upto_start g.K.Answer.mean g.K.Answer.kind c.args.records.now c.args.block c.args.row

pub loop-cell-preserved : goal.loop-cell-preserved
loop-cell-preserved g c =
    upto_add g.K.Answer.mean g.K.Answer.kind c.args.records.now c.args.block c.in_ok-own.own.now c.in_ok-own.ensures width c.args.row c.loop-cell.left
    c.loop-cell.from c.in-Some.cell c.loop-cell.invariant c.in-Some.ensures c.if-cell-own.false
    c.index-own-cell.result c.index-own-cell.is c.plus-left.result c.plus-left.ensures
