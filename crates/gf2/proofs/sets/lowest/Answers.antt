use Rattle.std.proofs.Common.{◌≡◌, ◌<◌, refl, zero-le, rules, tests}
use Rattle.std.proofs.lemmas.Iterator.{IsFirst-from_position, YieldsList-from_slice}
use Rattle.gf2.specs.Masks.{Fit}
use Rattle.gf2.proofs.Values.{no_words, lowest_word}
use Rattle.gf2.proofs.sets.lowest.Goals as goal

pub returns-in_err-i : goal.returns-in_err-i
returns-in_err-i c =
    let first = IsFirst-from_position _ _ _ (λ x. 0 < x) (λ x. x ≡ 0) c.position.ensures.ran (YieldsList-from_slice c.args.words.now cc)
    (λ x q k. search (rules, tests)) (λ x q k. search (rules, tests)) in
    let all = rw c.in_err-i.was at first in
    rw c.from_residual.ensures (no_words c.args.words.now (λ k h. all k 0 zero-le h))

pub returns : goal.returns
returns c =
    let first = IsFirst-from_position _ _ _ (λ x. 0 < x) (λ x. x ≡ 0) c.position.ensures.ran (YieldsList-from_slice c.args.words.now cc)
    (λ x q k. search (rules, tests)) (λ x q k. search (rules, tests)) in
    let here = rw c.in_ok-i.was at first in
    let fit : Fit c.args.words.now = search rules in
    lowest_word c.args.words.now fit c.in_ok-i.i (λ k h. here.2 k 0 zero-le h) (here.1 0) _ refl
