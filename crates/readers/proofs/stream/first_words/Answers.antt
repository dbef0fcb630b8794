use Rattle.std.proofs.Common.{rules, arith}
use Rattle.readers.proofs.Words.{words_from}
use Rattle.readers.proofs.stream.first_words.Goals as goal

pub returns : goal.returns
returns c k h =
    words_from _ (λ f. f.0.now.state) (λ f i y q call. search rules) c.args.seed c.from_fn.result 10 0 _ c.new-source.ensures c.from_fn.ensures.items.each k (omega arith) (omega arith)
