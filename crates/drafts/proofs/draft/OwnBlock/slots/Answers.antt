use Rattle.std.proofs.Common.{ap}
use Rattle.drafts.proofs.Bound.{says_count}
use Rattle.drafts.proofs.draft.OwnBlock.slots.Goals as goal

pub returns : goal.returns
returns g c H st = says_count _ _ _ H st _ c.args.self.now.within _ (ap (λ k. k.slots) c.noted.ensures)
