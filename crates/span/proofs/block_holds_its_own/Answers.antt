use Rattle.span.proofs.Blocks.{held_of}
use Rattle.span.proofs.block_holds_its_own.Goals as goal

pub returns : goal.returns
returns c = held_of
