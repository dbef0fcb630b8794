use Rattle.gf2.proofs.Views.{reduction_seen}
use Rattle.gf2.proofs.theorems.reduction_is_seen.Goals as goal

pub returns : goal.returns
returns g c = reduction_seen g.K.Answer.mean g.K.Answer.kind g.K.Marked.view g.met.K.Marked.seen
