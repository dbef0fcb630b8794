use Rattle.std.proofs.Common.{rules}
use Rattle.gf2.specs.Masks.{Fit}
use Rattle.gf2.proofs.Values.{toggle_in}
use Rattle.gf2.proofs.sets.toggle.Goals as goal

pub returns-then-c-words : goal.returns-then-c-words
returns-then-c-words c =
    let fit : Fit c.args.words.now = search rules in
    toggle_in c.args.words.now c.args.c fit c.if-c-words.true
