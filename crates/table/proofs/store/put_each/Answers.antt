use Rattle.std.proofs.Common.{◌≡◌, ◌*◌, ◌-◌, ◌≤◌, ◌∙◌, length, take, drop, slice_index, sym, ap, arith}
use Rattle.shapes.proofs.Limits.{shape_limits}
use Rattle.table.proofs.Bounds.{width_high}
use Rattle.table.specs.Images.{bytes_of}
use Rattle.table.proofs.Stores.{cell_within, word_more, low_bytes}
use Rattle.table.proofs.store.put_each.Goals as goal

pub loop-i-preserved : goal.loop-i-preserved
loop-i-preserved c =
    let w = c.cell_width-width.result in
    let x = slice_index c.args.words.now c.loop-i.i in
    let few : w ≤ 8 = omega (arith, c.cell_width-width.ensures, width_high c.args.shape.now.dims (shape_limits c.args.shape.now)) in
    let written : c.copy_from_slice.new.self ≡ bytes_of w x =
    c.copy_from_slice.ensures.after ∙ (ap (λ bs. take (8 - (8 - w)) (drop (8 - w) bs)) c.to_be_bytes.ensures ∙ low_bytes w x few) in
    let long : length c.loop-i.cells ≡ length c.args.words.now * w =
    c.loop-i.auto.cells ∙ c.requires ∙ ap (λ n. length c.args.words.now * n) (sym c.cell_width-width.ensures) in
    word_more _ _ _ _ _ c.loop-i-test.true (cell_within _ _ _ _ c.loop-i-test.true long) written c.loop-i.invariant
