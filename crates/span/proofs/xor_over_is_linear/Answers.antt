use Rattle.span.proofs.Xors.{xor_over_xor}
use Rattle.span.proofs.xor_over_is_linear.Goals as goal

pub returns : goal.returns
returns c = xor_over_xor
