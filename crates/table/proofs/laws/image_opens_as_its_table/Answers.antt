use Rattle.table.proofs.Images.{opens_as_its_table}
use Rattle.table.proofs.laws.image_opens_as_its_table.Goals as goal

pub returns : goal.returns
returns c = opens_as_its_table
