use Rattle.span.proofs.Runs.{run_conflict}
use Rattle.span.proofs.conflict_names_slots.Goals as goal

pub returns : goal.returns
returns c = run_conflict
