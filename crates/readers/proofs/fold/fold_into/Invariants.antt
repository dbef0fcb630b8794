use Rattle.std.proofs.Common.{◌≡◌, ◌≤◌, take}
use Rattle.readers.specs.Fold.{folded}
use Rattle.readers.proofs.fold.fold_into.Given as goal

abbrev pub invariant-loop-b : goal.invariant-loop-b
invariant-loop-b l = (take l.length l.room ≡ folded (take l.b-index l.key)) × (l.length ≤ l.b-index)
