use Rattle.span.proofs.Theorems.{blocks_have_runs}
use Rattle.span.proofs.blocks_have_runs.Goals as goal

pub returns : goal.returns
returns c = blocks_have_runs
