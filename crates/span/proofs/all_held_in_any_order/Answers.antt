use Rattle.span.proofs.Blocks.{all_held_in_any_order}
use Rattle.span.proofs.all_held_in_any_order.Goals as goal

pub returns : goal.returns
returns c = all_held_in_any_order
