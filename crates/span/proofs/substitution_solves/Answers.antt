use Rattle.span.proofs.Substitute.{solves}
use Rattle.span.proofs.substitution_solves.Goals as goal

pub returns : goal.returns
returns c = solves
