use Rattle.span.proofs.Theorems.{bound_is_bound}
use Rattle.span.proofs.bound_is_bound.Goals as goal

pub returns : goal.returns
returns g c = bound_is_bound g.K.AnswerKind.kind
