use Rattle.gf2.proofs.Views.{binding_seen}
use Rattle.gf2.proofs.theorems.binding_is_seen.Goals as goal

pub returns : goal.returns
returns g c = binding_seen g.K.Answer.mean g.K.Answer.kind g.K.Marked.view g.met.K.Marked.seen
