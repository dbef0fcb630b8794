use Rattle.span.proofs.Theorems.{conflict_is_conflict}
use Rattle.span.proofs.conflict_is_conflict.Goals as goal

pub returns : goal.returns
returns c = conflict_is_conflict
