use Rattle.span.proofs.Marked.{words_stand}
use Rattle.span.proofs.words_stand.Goals as goal

pub returns : goal.returns
returns g c = words_stand
