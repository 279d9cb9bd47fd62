-- Which value of an item a name asks for, in sorts and in filters (STAC API, Sort and Filter extensions).
use Rattle.std.specs.Prelude.{ℕ, Bool, true, false, nat_eq, List, take, drop, if◌then◌else◌}
use Rattle.std.specs.Cmp.Lexicographic.{pointwise}
use Rattle.sc_sort.specs.declared.names.Queryable.{Queryable}
use Rattle.sc_sort.specs.declared.names.Queryable.TheVariants as queryables
use Rattle.sc_sort.specs.Words.{id_name, collection_name, geometry_name, datetime_name, properties_prefix}

-- the item's id, its collection, its geometry, its time, or the member of its properties with this name
pub data Named : Type 0 where
  Id : Named
  Collection : Named
  Geometry : Named
  Time : Named
  Member : List ℕ → Named

-- the name behind one prefix `properties.`, where it has one
abbrev pub unprefixed : List ℕ → List ℕ
unprefixed name = if pointwise nat_eq (take 11 name) properties_prefix then drop 11 name else name

abbrev pub property_named : List ℕ → Named
property_named name = if pointwise nat_eq name datetime_name then Time else Member name

-- a prefix makes a property of each name
unfoldable pub named : List ℕ → Named
named name =
    if pointwise nat_eq name id_name then Id
    else (if pointwise nat_eq name collection_name then Collection
    else (if pointwise nat_eq name geometry_name then Geometry else property_named (unprefixed name)))

abbrev pub is_time : Named → Bool
is_time Id = false
is_time Collection = false
is_time Geometry = false
is_time Time = true
is_time (Member name) = false

-- what the code's answer is seen as
abbrev pub seen : Queryable → Named
seen queryables.Id = Id
seen queryables.Collection = Collection
seen queryables.Geometry = Geometry
seen queryables.Time = Time
seen (queryables.Member name) = Member name.now
