use Rattle.table.proofs.Images.{one_image_for_each}
use Rattle.table.proofs.laws.one_image_for_each_table.Goals as goal

pub returns : goal.returns
returns c = one_image_for_each
