use Rattle.std.proofs.Common.{length}
use Rattle.readers.proofs.stream.+hash.Given as goal

abbrev pub decreases-hash : goal.decreases-hash
decreases-hash l = length l.key.now
