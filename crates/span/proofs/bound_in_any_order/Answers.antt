use Rattle.span.proofs.Held.{bound_any_order}
use Rattle.span.proofs.bound_in_any_order.Goals as goal

pub returns : goal.returns
returns c = bound_any_order
