-- What a name stands for in an item.
use Rattle.std.specs.Prelude.{ℕ, ℤ, Bool, List, Option, Some, None}
use Rattle.sc_decimal.specs.Number.{Number}
use Rattle.sc_json.specs.declared.tree.Json.{Json}
use Rattle.sc_json.specs.declared.tree.Json.TheOpen as layer
use Rattle.sc_json.specs.declared.tree.Json.TheOpen.{Json-F}
use Rattle.sc_json.specs.declared.tree.Json.TheViews.{out-Json}
use Rattle.sc_json.specs.declared.tree.Member.{Member as NamedTree}
use Rattle.sc_json.specs.Member.{value_in}
use Rattle.sc_geom.specs.declared.point.Pt.{Pt}
use Rattle.sc_geom.specs.Shapes.{Shapes}
use Rattle.sc_sort.specs.Named.{Named, Id, Collection, Geometry, Time, Member, named}
use Rattle.sc_item.specs.Feature.{Feature}
use Rattle.sc_item.specs.Trees.{properties_in}
use Rattle.sc_eval.specs.declared.value.Value.{Value}
use Rattle.sc_eval.specs.declared.value.Value.TheVariants as values

-- a value: nothing, a text, a number, a truth value, a moment, a geometry, or what can't be compared
pub data PropertyValue : Type 0 where
  absent : PropertyValue
  text : List ℕ → PropertyValue
  number : Number → PropertyValue
  truth : Bool → PropertyValue
  moment : ℤ → PropertyValue
  shape : Shapes Pt → PropertyValue
  other : PropertyValue

-- what a lent value is seen as
abbrev pub seen : Value → PropertyValue
seen values.Absent = absent
seen (values.Text t) = text t.now
seen (values.Number n) = number n.now
seen (values.Truth b) = truth b
seen (values.Moment at) = moment at
seen (values.Shape g) = shape g.now
seen values.Other = other

abbrev pub value_of_tree : Json-F Json NamedTree → PropertyValue
value_of_tree layer.Null = absent
value_of_tree (layer.Truth b) = truth b
value_of_tree (layer.Number n) = number n.dec
value_of_tree (layer.Text t) = text t
value_of_tree (layer.List elements) = other
value_of_tree (layer.Object members) = other

-- a member that is missing is absent, as one that is null
abbrev pub value_of_member : Option Json → PropertyValue
value_of_member None = absent
value_of_member (Some tree) = value_of_tree (out-Json tree)

abbrev pub value_of_geometry : Option (Shapes Pt) → PropertyValue
value_of_geometry None = absent
value_of_geometry (Some g) = shape g

-- the item's id, its collection, its geometry, its start, or the member of `properties` that is asked for
abbrev pub value_named : Named → Feature → PropertyValue
value_named Id item = text item.id
value_named Collection item = text item.collection
value_named Geometry item = value_of_geometry item.geom
value_named Time item = moment item.start
value_named (Member name) item = value_of_member (value_in (properties_in item.tree) name)

-- the value of a name in an item
unfoldable pub property_value : List ℕ → Feature → PropertyValue
property_value name item = value_named (named name) item
