use Rattle.std.proofs.Common.{arith}
use Rattle.runs.proofs.Noted.{noted_none, noted_more, noted_done}
use Rattle.runs.proofs.steps.in_turn.Goals as goal

pub loop-step-init : goal.loop-step-init
loop-step-init g c = noted_none _ _ _ _ _ _ _

pub loop-step-preserved : goal.loop-step-preserved
loop-step-preserved g c = noted_more _ _ _ _ _ _ _ _ _ _ _ c.loop-step.auto.buffer c.loop-step.invariant _ (omega arith) _ _ _ c.perform.ensures

pub returns : goal.returns
returns g c = record { fresh = noted_done _ _ _ _ _ _ _ _ _ _ _ c.loop-step.auto.buffer c.loop-step.invariant (omega arith) _ _ c.write.ensures }
