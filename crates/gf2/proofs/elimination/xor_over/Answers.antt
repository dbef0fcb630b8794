use Rattle.std.proofs.Common.{true, false, sym, ◌∙◌}
use Rattle.std.specs.Int.Bits.{xor_zero_r}
use Rattle.span.proofs.Xors.{xor_over_none}
use Rattle.gf2.specs.Fills.{word_at}
use Rattle.gf2.specs.Masks.{mask}
use Rattle.gf2.proofs.Filled.{xor_more}
use Rattle.gf2.proofs.elimination.xor_over.Goals as goal
use Rattle.gf2.proofs.elimination.xor_over.Goals.{then-contains, else-contains}

pub loop-cell-init : goal.loop-cell-init
loop-cell-init c = sym (xor_over_none (word_at c.args.words.now) (mask c.args.cells))

pub loop-cell-preserved : goal.loop-cell-preserved
loop-cell-preserved c =
    let more = xor_more c.args.words.now (mask c.args.cells) c.loop-cell.cell c.loop-cell.total c.loop-cell.invariant in
    elim c.if-contains.branch [
      | then-contains w ↦ w.total-is ∙ more true w.if-contains.ensures
      | else-contains w ↦ w.total-is ∙ sym (xor_zero_r c.loop-cell.total) ∙ more false w.if-contains.ensures
    ]
