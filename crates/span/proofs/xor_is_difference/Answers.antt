use Rattle.span.proofs.Bits.{has_xor}
use Rattle.span.proofs.xor_is_difference.Goals as goal

pub returns : goal.returns
returns c = has_xor
