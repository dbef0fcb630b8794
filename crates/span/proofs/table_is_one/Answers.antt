use Rattle.span.proofs.Theorems.{table_is_one}
use Rattle.span.proofs.table_is_one.Goals as goal

pub returns : goal.returns
returns c = table_is_one
