use Rattle.drafts.proofs.Standing.{open_stands}
use Rattle.drafts.proofs.draft.Draft.blank.Goals as goal

pub returns-clause-empty : goal.returns-clause-empty
returns-clause-empty g c = open_stands _ _ _ c.empty.ensures
