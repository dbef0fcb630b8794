use Rattle.readers.proofs.Drawing.{odd_draws}
use Rattle.readers.proofs.draws.odd_draws.Goals as goal

pub returns : goal.returns
returns c = odd_draws
