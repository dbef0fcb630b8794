use Rattle.span.proofs.Runs.{run_held}
use Rattle.span.proofs.run_is_held.Goals as goal

pub returns : goal.returns
returns c = run_held
