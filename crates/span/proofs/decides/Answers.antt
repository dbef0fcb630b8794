use Rattle.span.proofs.Marked.{decides}
use Rattle.span.proofs.decides.Goals as goal

pub returns : goal.returns
returns g c = decides
