use Rattle.span.proofs.Theorems.{step_stands}
use Rattle.span.proofs.step_stands.Goals as goal

pub returns : goal.returns
returns g c = step_stands g.K.AnswerKind.kind
