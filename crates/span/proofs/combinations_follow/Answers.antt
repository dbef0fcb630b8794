use Rattle.span.proofs.Satisfied.{satisfies_comb}
use Rattle.span.proofs.combinations_follow.Goals as goal

pub returns : goal.returns
returns c = satisfies_comb
