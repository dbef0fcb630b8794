-- The text of a fault.
use Rattle.std.specs.Prelude.{ℕ, List, ◌++◌, codes, decimal}
use Rattle.shapes.specs.Faults.{named}
use Rattle.shapes.specs.declared.fault.Fault.{Fault}
use Rattle.shapes.specs.declared.fault.Layer.{Layer}
use Rattle.shapes.specs.declared.fault.Layer.TheVariants.{Shape, Draft, Reader, Table}

-- The name of a layer.
abbrev pub layer_text : Layer → List ℕ
layer_text Shape = codes "shape"
layer_text Draft = codes "draft"
layer_text Reader = codes "reader"
layer_text Table = codes "table"

-- As in "fault 13, place 2, layer table".
abbrev pub fault_text : Fault → List ℕ
fault_text f =
    codes "fault " ++ (decimal (named f).number ++ (codes ", place " ++ (decimal (named f).place ++ (codes ", layer " ++ layer_text (named f).layer))))
