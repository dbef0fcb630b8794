use Rattle.std.proofs.Common.{ap, arith}
use Rattle.std.proofs.lemmas.Nat.{one_shl}
use Rattle.drafts.proofs.Words.{answer_below}
use Rattle.drafts.proofs.draft.enter.answer.Goals as goal

pub returns-clause-fits : goal.returns-clause-fits
returns-clause-fits c =
    let d = c.args.shape.now.dims in
    let small = answer_below d.s d.r c.args.check c.args.notice c.requires.check c.requires.notice in
    let shifted = one_shl d.r 64 (omega (arith, c.dims.ensures.limits.r_high, ap (λ e. e.r) c.dims.ensures.same)) in
    grind arith
