use Rattle.span.proofs.Blocks.{solvable_held, own_decides}
use Rattle.span.proofs.own_block_decides.Goals as goal

pub returns : goal.returns
returns c w n E H held x = own_decides w n H (solvable_held w n E H held) x
