use Rattle.std.proofs.Common.{◌≡◌, ◌*◌, take}
use Rattle.std.specs.Str.{IsAscii}
use Rattle.report.specs.Texts.{hex}
use Rattle.report.proofs.hex.put.Given as goal

abbrev pub invariant-loop-i : goal.invariant-loop-i
invariant-loop-i l = record {
  is : take (2 * l.i) l.room ≡ hex (take l.i l.bytes);
  ascii : IsAscii (hex (take l.i l.bytes));
}
