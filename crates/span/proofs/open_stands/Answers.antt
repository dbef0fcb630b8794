use Rattle.span.proofs.Marked.{open_stands}
use Rattle.span.proofs.open_stands.Goals as goal

pub returns : goal.returns
returns g c = open_stands
