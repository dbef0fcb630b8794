use Rattle.span.proofs.Theorems.{blocks_have_table}
use Rattle.span.proofs.blocks_have_table.Goals as goal

pub returns : goal.returns
returns c = blocks_have_table
