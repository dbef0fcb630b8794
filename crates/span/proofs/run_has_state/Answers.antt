use Rattle.span.proofs.Runs.{run_state}
use Rattle.span.proofs.run_has_state.Goals as goal

pub returns : goal.returns
returns g c = run_state
