use Rattle.span.proofs.Marked.{slots_count_bound}
use Rattle.span.proofs.slots_count_bound.Goals as goal

pub returns : goal.returns
returns g c = slots_count_bound
