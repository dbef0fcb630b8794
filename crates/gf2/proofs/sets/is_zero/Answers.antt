use Rattle.std.proofs.Common.{◌≡◌, ◌<◌, rules, tests}
use Rattle.std.proofs.lemmas.Iterator.{cases_from_all, YieldsList-from_slice}
use Rattle.gf2.proofs.Values.{zero_words}
use Rattle.gf2.proofs.sets.is_zero.Goals as goal

pub returns : goal.returns
returns c =
    let test = zero_words c.args.words.now c.all.result
    (cases_from_all _ _ _ (λ x. x ≡ 0) (λ x. 0 < x) c.all.ensures.ran (YieldsList-from_slice c.args.words.now cc)
    (λ x q k. search (rules, tests)) (λ x q k. search (rules, tests))) in
    record { yes = test.0; only = test.1 }
