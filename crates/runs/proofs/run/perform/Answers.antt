use Rattle.runs.proofs.Performing.{enters_performs, asks_performs}
use Rattle.runs.proofs.run.perform.Goals as goal

pub returns-in-Enter : goal.returns-in-Enter
returns-in-Enter g c = rw c.in-Enter.is (enters_performs _ _ _ _ _ _ _ _ _ _ c.enter.ensures.enters)

pub returns-in-Bound : goal.returns-in-Bound
returns-in-Bound g c = rw c.in-Bound.is (asks_performs _ _ _ _ _ _ _ _ _ c.is_bound.ensures)
