-- The documents of the catalogue's API: its landing page, what it conforms to, what can be asked of items, and the list of its
-- collections (STAC API, Core and Collections; OGC API Features, part 1, section 7). BASE is the address of the catalogue
-- without a slash at its end.
use Rattle.std.specs.Prelude.{ℕ, List, ◌∷◌, [], ◌++◌, map, codes}
use Rattle.std.specs.List.{join_with_byte}
use Rattle.sc_json.specs.declared.tree.Json.{Json}
use Rattle.sc_json.specs.Compact.{compact, quoted}
use Rattle.sc_document.specs.declared.links.Link.{Link}
use Rattle.sc_document.specs.declared.links.Link.TheVariants.{Root, Own, Conformance, Data, GetSearch, PostSearch}

-- ---- links

-- what stands before a link's address
unfoldable pub start_of : Link → List ℕ
start_of Root = codes "{\"rel\":\"root\",\"type\":\"application/json\",\"href\":"
start_of Own = codes "{\"rel\":\"self\",\"type\":\"application/json\",\"href\":"
start_of Conformance = codes "{\"rel\":\"conformance\",\"type\":\"application/json\",\"href\":"
start_of Data = codes "{\"rel\":\"data\",\"type\":\"application/json\",\"href\":"
start_of GetSearch = codes "{\"rel\":\"search\",\"type\":\"application/geo+json\",\"method\":\"GET\",\"href\":"
start_of PostSearch = codes "{\"rel\":\"search\",\"type\":\"application/geo+json\",\"method\":\"POST\",\"href\":"

-- the path to which it leads
unfoldable pub path_of : Link → List ℕ
path_of Root = codes "/"
path_of Own = codes "/"
path_of Conformance = codes "/conformance"
path_of Data = codes "/collections"
path_of GetSearch = codes "/search"
path_of PostSearch = codes "/search"

abbrev pub link : Link → List ℕ → List ℕ
link to base = start_of to ++ quoted (base ++ path_of to) ++ 125 ∷ []

-- ---- what the catalogue conforms to

unfoldable pub conforms_to : List ℕ
conforms_to = codes "\"conformsTo\":[\"https://api.stacspec.org/v1.0.0/core\",\"https://api.stacspec.org/v1.0.0/item-search\",\"http://www.opengis.net/spec/cql2/1.0/conf/cql2-text\",\"http://www.opengis.net/spec/cql2/1.0/conf/cql2-json\",\"http://www.opengis.net/spec/cql2/1.0/conf/basic-cql2\"]"

abbrev pub conformance : List ℕ
conformance = 123 ∷ [] ++ conforms_to ++ 125 ∷ []

-- ---- the landing page

unfoldable pub landing_start : List ℕ
landing_start = codes "{\"type\":\"Catalog\",\"stac_version\":\"1.0.0\",\"id\":\"stacd\",\"description\":\"Catalogue of scenes\","

-- what stands before and behind links, in any document
unfoldable pub links_start : List ℕ
links_start = codes ",\"links\":["

unfoldable pub links_end : List ℕ
links_end = codes "]}"

abbrev pub landing_links : List ℕ → List ℕ
landing_links base =
    link Root base ++ 44 ∷ [] ++ link Own base ++ 44 ∷ [] ++ link Conformance base ++ 44 ∷ [] ++ link Data base ++ 44 ∷ []
    ++ link GetSearch base ++ 44 ∷ [] ++ link PostSearch base

abbrev pub landing : List ℕ → List ℕ
landing base = landing_start ++ conforms_to ++ links_start ++ landing_links base ++ links_end

-- ---- what can be asked of items

unfoldable pub queryables : List ℕ
queryables = codes "{\"type\":\"object\",\"title\":\"Queryables\",\"properties\":{\"id\":{\"type\":\"string\"},\"collection\":{\"type\":\"string\"},\"datetime\":{\"type\":\"string\"},\"geometry\":{\"type\":\"object\"}},\"additionalProperties\":true}"

-- ---- the list of collections

unfoldable pub collections_start : List ℕ
collections_start = codes "{\"collections\":["

-- the compact texts of the collections' trees between commas
abbrev pub tree_texts : List Json → List ℕ
tree_texts trees = join_with_byte 44 (map compact trees)

abbrev pub collections : List ℕ → List Json → List ℕ
collections base trees = collections_start ++ tree_texts trees ++ 93 ∷ [] ++ links_start ++ link Root base ++ links_end
