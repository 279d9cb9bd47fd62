-- The trees of the items that a document brings: the features of a FeatureCollection (RFC 7946 §3.3), or the document itself.
use Rattle.std.specs.Prelude.{ℕ, Bool, false, List, [], ◌∷◌, Option, Some, None, nat_eq, if◌then◌else◌}
use Rattle.std.specs.Option.{option_and_then}
use Rattle.std.specs.Cmp.Lexicographic.{pointwise}
use Rattle.sc_json.specs.declared.tree.Json.{Json}
use Rattle.sc_json.specs.Member.{member_value}
use Rattle.sc_geom.specs.Tree.{list_of}
use Rattle.sc_item.specs.Words.{type_name}
use Rattle.sc_item.specs.Trees.{text_member}
use Rattle.sc_load.specs.Words.{features_name, several_word}

-- the text is there, and is the word
abbrev pub is_word : List ℕ → Option (List ℕ) → Bool
is_word word None = false
is_word word (Some text) = pointwise nat_eq text word

-- the elements of the member `features`, where `type` is "FeatureCollection"
unfoldable pub features_of : Json → Option (List Json)
features_of tree = if is_word several_word (text_member tree type_name) then option_and_then list_of (member_value tree features_name) else None

abbrev pub features_or : Option (List Json) → Json → List Json
features_or None tree = tree ∷ []
features_or (Some features) tree = features

-- the features, where there is such a list, else the one tree
abbrev pub trees_of : Json → List Json
trees_of tree = features_or (features_of tree) tree
