use Rattle.span.proofs.Theorems.{slots_are_one}
use Rattle.span.proofs.slots_are_one.Goals as goal

pub returns : goal.returns
returns c = slots_are_one
