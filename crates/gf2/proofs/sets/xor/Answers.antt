use Rattle.std.proofs.Common.{get_or, bit_xor, arith, rules, tests}
use Rattle.gf2.specs.Masks.{Fit}
use Rattle.gf2.proofs.Values.{xor_words, made_by}
use Rattle.gf2.proofs.sets.xor.Goals as goal

pub returns : goal.returns
returns c =
    let ws = c.args.words.now in
    let vs = c.args.others.now in
    let fit : Fit ws = search rules in
    let fits : Fit vs = search rules in
    xor_words ws vs c.from_fn.result fit fits (search rules) (search rules)
    (λ k h. made_by (λ i. bit_xor (get_or ws i 0) (get_or vs i 0)) c.from_fn.ensures.items (λ i y q called. search (rules, tests)) k (omega arith))
