use Rattle.gf2.proofs.Frames.{others_stay}
use Rattle.gf2.proofs.theorems.others_stay.Goals as goal

pub returns : goal.returns
returns g c = others_stay g.K.Answer.mean g.K.Answer.kind
