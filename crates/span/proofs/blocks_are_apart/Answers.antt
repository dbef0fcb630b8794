use Rattle.span.proofs.Blocks.{solvable_of}
use Rattle.span.proofs.blocks_are_apart.Goals as goal

pub returns : goal.returns
returns c = solvable_of
