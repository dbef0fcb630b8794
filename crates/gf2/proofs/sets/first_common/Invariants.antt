use Rattle.std.proofs.Common.{◌+◌, ◌/◌, length}
use Rattle.gf2.specs.Masks.{value, NoCommon}
use Rattle.gf2.proofs.Common.{place}
use Rattle.gf2.proofs.sets.first_common.Given as goal

abbrev pub invariant-loop-i : goal.invariant-loop-i
invariant-loop-i l = record {
  can : (goal.iterator-loop-i).can_next l.i-iterator;
  finite : (goal.iterator-loop-i).is_finite l.i-iterator;
  none : NoCommon (value l.words) (value l.others) l.c (place l.c (l.c / 64 + length l.yielded));
}
