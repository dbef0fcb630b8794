use Rattle.span.proofs.Substitute.{goes_down}
use Rattle.span.proofs.substitution_goes_down.Goals as goal

pub returns : goal.returns
returns c = goes_down
