-- What the code's table stands for.
use Rattle.std.specs.Prelude.{Result}
use Rattle.std.specs.Result.{result_map_both}
use Rattle.shapes.specs.declared.fault.Fault.{Fault}
use Rattle.shapes.specs.declared.shape.Dims.{Dims}
use Rattle.table.specs.Images.{Content, content_of}
use Rattle.table.specs.declared.table.Table.{Table}

-- The five numbers of a table.
abbrev pub dims_of : Table → Dims
dims_of t = t.shape.dims

-- The content of a table that borrows its cells.
abbrev pub content : Table → Content
content t = content_of (dims_of t) t.cells.now

-- The content of the table that a call answers.
abbrev pub content_in : Result Table Fault → Result Content Fault
content_in = result_map_both content (λ e. e)
