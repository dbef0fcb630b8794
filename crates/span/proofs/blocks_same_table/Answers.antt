use Rattle.span.proofs.Blocks.{table_in_same}
use Rattle.span.proofs.blocks_same_table.Goals as goal

pub returns : goal.returns
returns c = table_in_same
