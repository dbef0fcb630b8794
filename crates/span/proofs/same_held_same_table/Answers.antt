use Rattle.span.proofs.Held.{table_same}
use Rattle.span.proofs.same_held_same_table.Goals as goal

pub returns : goal.returns
returns c = table_same
