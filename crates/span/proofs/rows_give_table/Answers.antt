use Rattle.span.proofs.Theorems.{rows_give_table}
use Rattle.span.proofs.rows_give_table.Goals as goal

pub returns : goal.returns
returns c = rows_give_table
