use Rattle.std.proofs.lemmas.Option.{MatchOption-at_some}
use Rattle.drafts.proofs.Verdicts.{judged}
use Rattle.drafts.proofs.draft.Draft.verdict.Goals as goal

pub returns : goal.returns
returns g c =
    judged _ _ _ g.met.K.Marked.seen _ _ g.met.K.Marked.blames _ _ _ _ _ c.requires c.of_word.ensures
    (MatchOption-at_some _ _ _ c.unwrap.ensures (rw c.block-place.ensures at c.reduce.ensures)) _ c.sorted.ensures
