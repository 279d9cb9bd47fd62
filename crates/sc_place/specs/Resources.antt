-- The resources of the catalogue, by the segments of a path.
use Rattle.std.specs.Prelude.{◌≡◌, ◌≢◌, ℕ, List, [], ◌∷◌, codes, IsUtf8, Option, Some, None}
use Rattle.sc_place.specs.Segments.{path_of, segments, Writes}
use Rattle.sc_place.specs.declared.resource.Resource.{Resource}
use Rattle.sc_place.specs.declared.resource.Resource.TheVariants.{Landing, Conformance, Queryables, Search, Collections, Collection, Items, Item}

abbrev pub conformance_name : List ℕ
conformance_name = codes "conformance"

abbrev pub queryables_name : List ℕ
queryables_name = codes "queryables"

abbrev pub search_name : List ℕ
search_name = codes "search"

abbrev pub collections_name : List ℕ
collections_name = codes "collections"

abbrev pub items_name : List ℕ
items_name = codes "items"

-- these are the segments of a path to the resource, with the empty one in front of its first slash
abbrev pub HasSegments : Resource → List (List ℕ) → Type 0
HasSegments Landing segs = segs ≡ [] ∷ ([] ∷ [])
HasSegments Conformance segs = segs ≡ [] ∷ (conformance_name ∷ [])
HasSegments Queryables segs = segs ≡ [] ∷ (queryables_name ∷ [])
HasSegments Search segs = segs ≡ [] ∷ (search_name ∷ [])
HasSegments Collections segs = segs ≡ [] ∷ (collections_name ∷ [])
HasSegments (Collection id) segs = (written : List ℕ) × (segs ≡ [] ∷ (collections_name ∷ (written ∷ []))) × Writes written id
HasSegments (Items collection) segs =
    (written : List ℕ) × (segs ≡ [] ∷ (collections_name ∷ (written ∷ (items_name ∷ [])))) × Writes written collection
HasSegments (Item collection id) segs =
    (written last : List ℕ) × (segs ≡ [] ∷ (collections_name ∷ (written ∷ (items_name ∷ (last ∷ []))))) × Writes written collection × Writes last id

-- a target of whole characters leads to the resource by its path
abbrev pub LeadsTo : List ℕ → Resource → Type 0
LeadsTo target resource = IsUtf8 target × HasSegments resource (segments (path_of target))

abbrev pub LeadsNowhere : List ℕ → Type 0
LeadsNowhere target = (resource : Resource) → ¬ (LeadsTo target resource)

-- the resource of a target, or none where it leads nowhere
abbrev pub ResourceOf : List ℕ → Option Resource → Type 0
ResourceOf target (Some resource) = LeadsTo target resource
ResourceOf target None = LeadsNowhere target
