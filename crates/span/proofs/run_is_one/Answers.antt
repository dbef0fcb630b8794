use Rattle.span.proofs.Theorems.{run_is_one}
use Rattle.span.proofs.run_is_one.Goals as goal

pub returns : goal.returns
returns c = run_is_one
