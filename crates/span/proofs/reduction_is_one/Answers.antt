use Rattle.span.proofs.Theorems.{reduction_is_one}
use Rattle.span.proofs.reduction_is_one.Goals as goal

pub returns : goal.returns
returns g c = reduction_is_one g.K.AnswerKind.kind
