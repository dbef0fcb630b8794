use Rattle.std.proofs.Common.{◌∙◌, arith}
use Rattle.readers.specs.Stream.{word}
use Rattle.readers.proofs.Drawing.{clause_of_same}
use Rattle.shapes.proofs.Limits.{shape_limits}
use Rattle.readers.proofs.stream.clause_from.Goals as goal

pub returns : goal.returns
returns c =
    let shape = c.args.shape.now in
    let few = (shape_limits shape).k_high in
    c.clause_of.ensures ∙ clause_of_same shape.dims _ (word c.args.seed) (λ i h. c.first_words-words.ensures i (omega arith))
