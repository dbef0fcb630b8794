use Rattle.span.proofs.Same.{same_rows_stand}
use Rattle.span.proofs.same_rows_stand.Goals as goal

pub returns : goal.returns
returns g c = same_rows_stand
