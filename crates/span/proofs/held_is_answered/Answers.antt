use Rattle.span.proofs.Satisfied.{held_is_answered}
use Rattle.span.proofs.held_is_answered.Goals as goal

pub returns : goal.returns
returns c = held_is_answered
