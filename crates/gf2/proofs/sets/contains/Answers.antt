use Rattle.std.proofs.Common.{◌/◌, length, ◌∙◌, le-ltb, rules}
use Rattle.gf2.specs.Masks.{Fit}
use Rattle.gf2.proofs.Values.{tested, past}
use Rattle.gf2.proofs.sets.contains.Goals as goal

pub returns-then-c-words : goal.returns-then-c-words
returns-then-c-words c = let fit : Fit c.args.words.now = search rules in tested c.args.words.now c.args.c fit

pub returns-else-c-words : goal.returns-else-c-words
returns-else-c-words c =
    let words = c.args.words.now in
    let fit : Fit words = search rules in
    le-ltb (c.args.c / 64) (length words) c.if-c-words.false ∙ past words c.args.c fit c.if-c-words.false
