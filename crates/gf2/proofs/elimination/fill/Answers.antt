use Rattle.std.proofs.Common.{◌≡◌, ℕ, suc, ◌-◌, length, ◌∙◌, refl, subst, arith}
use Rattle.span.specs.Marked.{fulls}
use Rattle.gf2.specs.Masks.{mask}
use Rattle.gf2.specs.Fills.{words_of}
use Rattle.gf2.proofs.Filled.{FilledFrom, filled_more, filled_all, made_in}
use Rattle.gf2.proofs.States.{count}
use Rattle.gf2.proofs.elimination.fill.Goals as goal

pub loop-cell-preserved : goal.loop-cell-preserved
loop-cell-preserved g c =
    let view = g.K.Marked.view in
    let marks = g.K.Marked.marks in
    let records = c.args.records.now in
    let block = c.args.block in
    let own = c.in_ok-own.own.now in
    let o = rw c.in_ok-own.ensures.ok_part at c.own_rows.ensures in
    let long : length own ≡ block.n = count view fulls records block own o in
    let S = words_of view marks records block in
    let n = block.n in
    let words = c.loop-cell.words in
    let row = c.made_of-row.result in
    let up : c.loop-cell.cell ≡ suc (c.loop-cell.cell - 1) = omega arith in
    filled_more (c.loop-cell.cell - 1) n S words (subst (λ (k : ℕ). FilledFrom k n S words) up c.loop-cell.invariant) (omega arith)
    (c.loop-cell.auto.words ∙ c.if-words-own.false ∙ long) row.answer.0 (mask row.cells) c.xor_over.result
    (made_in view marks records block own o (c.loop-cell.cell - 1) c.index-own-cell.result (omega arith) c.index-own-cell.is row c.made_of-row.ensures) c.xor_over.ensures

pub returns : goal.returns
returns g c =
    let view = g.K.Marked.view in
    let marks = g.K.Marked.marks in
    let records = c.args.records.now in
    let block = c.args.block in
    let o = rw c.in_ok-own.ensures.ok_part at c.own_rows.ensures in
    let done : c.loop-cell.cell ≡ 0 = omega arith in
    record {
      taken = λ _ _. refl;
      only = (o.there, c.if-words-own.false ∙ count view fulls records block c.in_ok-own.own.now o);
      filled = filled_all view marks records block c.loop-cell.words
          (subst (λ (k : ℕ). FilledFrom k block.n (words_of view marks records block) c.loop-cell.words) done c.loop-cell.invariant);
      kept = tt;
    }
