use Rattle.span.proofs.Marked.{names_slots}
use Rattle.span.proofs.names_slots.Goals as goal

pub returns : goal.returns
returns c = names_slots
