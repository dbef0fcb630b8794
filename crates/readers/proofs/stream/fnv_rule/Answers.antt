use Rattle.readers.proofs.Hashing.{fnv_rule}
use Rattle.readers.proofs.stream.fnv_rule.Goals as goal

pub returns : goal.returns
returns c = fnv_rule
