-- The text of a reply.
use Rattle.std.specs.Prelude.{ℕ, List, ◌++◌, codes, decimal}
use Rattle.table.specs.declared.reply.Reply.{Reply}
use Rattle.table.specs.declared.reply.Reply.TheVariants.{No, Maybe}

-- As in "No" and "Maybe 2".
abbrev pub reply_text : Reply → List ℕ
reply_text No = codes "No"
reply_text (Maybe notice) = codes "Maybe " ++ decimal notice
