use Rattle.std.proofs.Common.{◌≡◌}
use Rattle.span.specs.Fillings.{xor_over}
use Rattle.gf2.specs.Fills.{word_at}
use Rattle.gf2.specs.Masks.{mask}
use Rattle.gf2.proofs.elimination.xor_over.Given as goal

abbrev pub invariant-loop-cell : goal.invariant-loop-cell
invariant-loop-cell l = l.total ≡ xor_over (word_at l.words) l.cell (mask l.cells)
