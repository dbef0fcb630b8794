use Rattle.std.proofs.Common.{◌-◌}
use Rattle.gf2.specs.Masks.{width}
use Rattle.gf2.proofs.States.{Upto}
use Rattle.gf2.proofs.elimination.reduce.Given as goal

abbrev pub invariant-loop-cell : goal.invariant-loop-cell
invariant-loop-cell g l = Upto g.K.Answer.mean g.K.Answer.kind l.fn.records l.block l.initial.left l.left l.from

abbrev pub decreases-loop-cell : goal.decreases-loop-cell
decreases-loop-cell g l = width - l.from
