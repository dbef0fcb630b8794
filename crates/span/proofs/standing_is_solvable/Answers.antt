use Rattle.span.proofs.Solve.{stands_solvable}
use Rattle.span.proofs.standing_is_solvable.Goals as goal

pub returns : goal.returns
returns c = stands_solvable
