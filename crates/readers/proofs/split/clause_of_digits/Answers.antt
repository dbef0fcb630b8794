use Rattle.std.proofs.Common.{get_or, ap, ◌∙◌}
use Rattle.readers.specs.Draws.{clause_of}
use Rattle.readers.specs.Split.{digits, digit}
use Rattle.readers.proofs.Drawing.{clause_of_same, zeros_after}
use Rattle.readers.proofs.split.clause_of_digits.Goals as goal

pub returns : goal.returns
returns c =
    let bytes = c.args.bytes.now in
    let d = c.args.shape.now.dims in
    c.clause_of.ensures
    ∙ ap (λ row. clause_of d (λ i. get_or row i 0)) c.digit_row.ensures
    ∙ clause_of_same d _ (digit bytes) (λ i h. zeros_after (digits bytes) i)
