use Rattle.span.proofs.Theorems.{held_has_table}
use Rattle.span.proofs.held_has_table.Goals as goal

pub returns : goal.returns
returns c = held_has_table
