-- What a geometry object depicts (RFC 7946 §3.1).
use Rattle.std.specs.Prelude.{◌≡◌, List, [], ◌∷◌, Option, Some}
use Rattle.std.specs.Option.{option_and_then}
use Rattle.sc_json.specs.declared.tree.Json.{Json}
use Rattle.sc_json.specs.declared.tree.Member.{Member}
use Rattle.sc_geom.specs.declared.kind.Kind.{Kind}
use Rattle.sc_geom.specs.declared.kind.Kind.TheVariants.{GeometryCollection}
use Rattle.sc_geom.specs.Shapes.{nothing, beside}
use Rattle.sc_geom.specs.Sketch.{Sketch}
use Rattle.sc_geom.specs.Tree.{list_of, members_of, text_of, member_named}
use Rattle.sc_geom.specs.Kinds.{kind_named, type_name, coordinates_name, geometries_name}
use Rattle.sc_geom.specs.Drawn.{drawn}

-- the kind that the member `type` names
unfoldable pub kind_in : List Member → Option Kind
kind_in members = option_and_then kind_named (option_and_then text_of (member_named type_name members))

mutual
  pub data Depicts : Json → Sketch → Type 0 where
    -- a kind with coordinates
    by_coordinates : (tree : Json) (members : List Member) (kind : Kind) (coordinates : Json) (s : Sketch) →
        members_of tree ≡ Some members → kind_in members ≡ Some kind →
        member_named coordinates_name members ≡ Some coordinates → drawn kind coordinates ≡ Some s →
        Depicts tree s
    -- a collection, whose geometries are depicted side by side, in order (§3.1.8)
    by_geometries : (tree : Json) (members : List Member) (geometries : Json) (trees : List Json) (s : Sketch) →
        members_of tree ≡ Some members → kind_in members ≡ Some GeometryCollection →
        member_named geometries_name members ≡ Some geometries → list_of geometries ≡ Some trees → AllDepict trees s →
        Depicts tree s

  pub data AllDepict : List Json → Sketch → Type 0 where
    none_left : AllDepict [] nothing
    one_more : (tree : Json) (trees : List Json) (s t : Sketch) → Depicts tree s → AllDepict trees t → AllDepict (tree ∷ trees) (beside s t)
