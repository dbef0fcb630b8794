use Rattle.std.proofs.Common.{◌++◌, codes}
use Rattle.std.specs.Fmt.{HasWritten, IsPlainFormatter}
use Rattle.gf2.specs.Masks.{mask}
use Rattle.report.specs.Texts.{members, spaced}
use Rattle.report.proofs.detail.SlotsDisplay.fmt.Given as goal

abbrev pub invariant-loop-slot : goal.invariant-loop-slot
invariant-loop-slot g l =
    IsPlainFormatter l.fn.f → HasWritten g.W.Write.write_str_gives l.fn.f (codes ", slots" ++ spaced (members (mask l.slots) l.slot-counter)) l.f
