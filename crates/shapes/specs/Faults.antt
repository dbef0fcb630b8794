-- The number, the place and the layer of each fault.
use Rattle.std.specs.Prelude.{ℕ}
use Rattle.shapes.specs.Limits.{place_of}
use Rattle.shapes.specs.declared.fault.Fault.{Fault}
use Rattle.shapes.specs.declared.fault.Fault.TheVariants.{ShapeLimit, FewRows, NotAdmitted, LongKey, TurnedDown, LargeNotice, Conflict, NoBlock, NoCell, ShortBuffer, NoHeader, HeaderLimit, ImageLength, LargeCell}
use Rattle.shapes.specs.declared.fault.Caller.{Caller}
use Rattle.shapes.specs.declared.fault.Caller.TheVariants as caller
use Rattle.shapes.specs.declared.fault.Layer.{Layer}
use Rattle.shapes.specs.declared.fault.Layer.TheVariants as layer

-- What every fault names: its number, its place and its layer.
pub record Named : Type 0 where
  pub number : ℕ
  pub place : ℕ
  pub layer : Layer

-- A number, a place and a layer.
abbrev pub name : ℕ → ℕ → Layer → Named
name number place layer = record { number = number; place = place; layer = layer }

-- The layer of a call that reads a key.
abbrev pub layer_by : Caller → Layer
layer_by caller.Draft = layer.Draft
layer_by caller.Table = layer.Table

-- All thirteen: a fault's number, its place, and the layer that it comes from.
abbrev pub named : Fault → Named
named (ShapeLimit limit) = name 1 (place_of limit) layer.Shape
named (FewRows rows) = name 2 rows layer.Draft
named (NotAdmitted by) = name 3 0 (layer_by by)
named (LongKey by len) = name 4 len (layer_by by)
named (TurnedDown refusal) = name 5 refusal.place layer.Reader
named (LargeNotice bits) = name 6 bits layer.Draft
named (Conflict block slots) = name 7 block layer.Draft
named NoBlock = name 8 1 layer.Draft
named NoCell = name 8 2 layer.Draft
named (ShortBuffer len) = name 9 len layer.Draft
named NoHeader = name 10 0 layer.Table
named (HeaderLimit limit) = name 11 (place_of limit) layer.Table
named (ImageLength len) = name 12 len layer.Table
named (LargeCell cell) = name 13 cell layer.Table
