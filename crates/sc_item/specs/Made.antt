-- The item that is made of parts and a tree.
use Rattle.std.specs.Prelude.{◌≡◌, ℕ, List}
use Rattle.sc_json.specs.declared.tree.Json.{Json}
use Rattle.sc_json.specs.Compact.{compact}
use Rattle.sc_item.specs.declared.parts.Parts.{Parts}
use Rattle.sc_item.specs.Feature.{Feature, IsPlaceOf}

pub record IsMade (collection : List ℕ) (parts : Parts) (tree : Json) (item : Feature) : Type 0 where
  pub collection_is : item.collection ≡ collection
  pub id_is : item.id ≡ parts.id
  pub start_is : item.start ≡ parts.times.start
  pub end_is : item.end ≡ parts.times.end
  pub geom_is : item.geom ≡ parts.geom
  pub place_is : IsPlaceOf item.geom item.place
  pub tree_is : item.tree ≡ tree
  pub doc_is : item.doc ≡ compact tree
