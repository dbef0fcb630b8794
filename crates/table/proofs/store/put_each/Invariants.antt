use Rattle.std.proofs.Common.{◌≡◌, ◌*◌, take}
use Rattle.std.specs.List.{flat_map}
use Rattle.table.specs.Images.{bytes_of}
use Rattle.table.proofs.store.put_each.Given as goal

-- the cells before this one are written
abbrev pub invariant-loop-i : goal.invariant-loop-i
invariant-loop-i l = take (l.i * l.width) l.cells ≡ flat_map (bytes_of l.width) (take l.i l.words)
