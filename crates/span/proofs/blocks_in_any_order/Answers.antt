use Rattle.span.proofs.Blocks.{bound_in_any_order}
use Rattle.span.proofs.blocks_in_any_order.Goals as goal

pub returns : goal.returns
returns c = bound_in_any_order
