use Rattle.std.proofs.Common.{rules}
use Rattle.table.proofs.Walks.{passed_none, passed_more, passed_all, put_in, left_out}
use Rattle.table.proofs.cells.xor_records.Goals as goal

pub loop-c-init : goal.loop-c-init
loop-c-init c = (search rules, search rules, passed_none _ _ _ _ _ _ (search rules) (search rules) (search rules))

pub loop-c-preserved : goal.loop-c-preserved
loop-c-preserved c =
    let step = c.in-Some.ensures.steps in
    (search rules, search rules, passed_more _ _ _ _ _ _ _ _ _ _ _ _ _ c.loop-c.invariant.2 step.2 step.1 step.0.0 step.0.1.0 step.0.1.1 (left_out _ _ _ c.if-contains.ensures))

pub loop-c-preserved-then-contains : goal.loop-c-preserved-then-contains
loop-c-preserved-then-contains c =
    let step = c.in-Some.ensures.steps in
    (search rules, search rules, passed_more _ _ _ _ _ _ _ _ _ _ _ _ _ c.loop-c.invariant.2 step.2 step.1 step.0.0 step.0.1.0 step.0.1.1 (put_in _ _ _ _ c.if-contains.ensures c.word-v.ensures))

pub returns : goal.returns
returns c = passed_all _ _ _ _ _ _ _ c.loop-c.invariant.2 c.in-None.ensures.steps.0.1.0
