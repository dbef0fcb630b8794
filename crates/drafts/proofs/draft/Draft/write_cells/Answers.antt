use Rattle.std.proofs.Common.{◌≡◌, ◌*◌, ◌<◌, length, ap, ◌∙◌, arith}
use Rattle.table.specs.Sizes.{width}
use Rattle.drafts.specs.Standing.{dims_of}
use Rattle.drafts.proofs.Writing.{next_part, part_within, words_more}
use Rattle.drafts.proofs.draft.Draft.write_cells.Goals as goal

pub loop-b-preserved : goal.loop-b-preserved
loop-b-preserved g c =
    let d = c.args.self.now in
    let size : length c.args.words.now * c.cell_width.result ≡ (dims_of d).n * width (dims_of d) =
    ap (λ k. k * c.cell_width.result) c.requires.block ∙ ap (λ k. (dims_of d).n * k) c.cell_width.ensures in
    let under : c.loop-b.b < (dims_of d).b = omega (arith, c.loop-b-test.true, ap (λ e. e.b) c.dims-b-end.ensures.same) in
    let within = part_within g.K.Marked.view g.K.Marked.marks d _ size c.loop-b.b under _ (c.loop-b.auto.cells ∙ c.requires.size) in
    words_more _ _ d _ size c.loop-b.b _ _ (omega (arith, within, next_part c.loop-b.b (length c.args.words.now * c.cell_width.result)))
    c.loop-b.invariant c.write.ensures
