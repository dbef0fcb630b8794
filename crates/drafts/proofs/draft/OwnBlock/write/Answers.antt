use Rattle.std.proofs.Common.{◌*◌, sym, ap, ◌∙◌}
use Rattle.table.specs.Sizes.{width}
use Rattle.table.proofs.Bytes.{length_joined}
use Rattle.table.proofs.Stores.{stored_ok}
use Rattle.drafts.specs.Standing.{dims_of}
use Rattle.drafts.proofs.draft.OwnBlock.write.Goals as goal

pub unwrap-requires-2 : goal.unwrap-requires-2
unwrap-requires-2 g c =
    let w = width (dims_of c.args.self.now.draft.now) in
    stored_ok _ _ _ _ c.put_words.ensures
    (c.requires.size ∙ sym (length_joined w c.fill.new.words ∙ ap (λ n. n * w) (c.fill.auto.words ∙ c.requires.block)))
