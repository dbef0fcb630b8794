use Rattle.gf2.specs.Masks.{mask}
use Rattle.gf2.proofs.Values.{toggled_in_lem}
use Rattle.gf2.proofs.elimination.with.Goals as goal

pub returns-else-contains : goal.returns-else-contains
returns-else-contains c =
    toggled_in_lem (mask c.args.set) c.args.cell (mask c.toggled.result) c.requires c.if-contains.ensures c.toggled.ensures
