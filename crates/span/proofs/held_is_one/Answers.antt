use Rattle.span.proofs.Theorems.{held_is_one}
use Rattle.span.proofs.held_is_one.Goals as goal

pub returns : goal.returns
returns c = held_is_one
