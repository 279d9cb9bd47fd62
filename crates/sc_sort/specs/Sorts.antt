-- The sorts of a query's text and of a body's tree (STAC API, Sort extension), and the first fault that holds.
use Rattle.std.specs.Prelude.{◌≡◌, ℕ, Bool, true, false, ◌||◌, ◌==◌, nat_eq, nat_lt, if◌then◌else◌, List, [], ◌∷◌, length, map, Option, Some, None, is_none, unwrap_or, Result, Ok, Err}
use Rattle.std.specs.List.{list_any}
use Rattle.std.specs.Option.{option_and_then}
use Rattle.std.specs.Cmp.Lexicographic.{pointwise}
use Rattle.sc_base.specs.Parts.{parts_between}
use Rattle.sc_json.specs.declared.tree.Json.{Json}
use Rattle.sc_json.specs.declared.tree.Json.TheOpen as layer
use Rattle.sc_json.specs.declared.tree.Json.TheOpen.{Json-F}
use Rattle.sc_json.specs.declared.tree.Json.TheViews.{out-Json}
use Rattle.sc_json.specs.declared.tree.Member.{Member}
use Rattle.sc_json.specs.Member.{member_value}
use Rattle.sc_sort.specs.declared.key.Key.{Key}
use Rattle.sc_sort.specs.declared.fault.SortFault.{SortFault}
use Rattle.sc_sort.specs.declared.fault.SortFault.TheVariants.{BadField, BadDirection, TooManyKeys, OutOfMemory}
use Rattle.sc_sort.specs.Words.{field_name, direction_name, ascending_word, descending_word}

-- ---- texts

-- a name behind a sign: `-` is down; `+` is up, and so are a blank, as which a `+` comes out of a query, and no sign
abbrev pub key_of_part : List ℕ → Key
key_of_part [] = record { name = []; down = false }
key_of_part (sign ∷ rest) =
    if sign == 45 then record { name = rest; down = true }
    else (if (sign == 43) || (sign == 32) then record { name = rest; down = false }
    else record { name = sign ∷ rest; down = false })

-- a key between each two commas
abbrev pub keys_of_text : List ℕ → List Key
keys_of_text text = map key_of_part (parts_between 44 text)

abbrev pub is_unnamed : Key → Bool
is_unnamed key = length key.name == 0

-- the sort of these keys; the first that holds of a name that is empty, and of more than 4 keys, is its fault
abbrev pub sort_of_keys : List Key → Result (List Key) SortFault
sort_of_keys keys =
    if list_any is_unnamed keys then Err BadField
    else (if nat_lt 4 (length keys) then Err (TooManyKeys (length keys)) else Ok keys)

abbrev pub sort_of_text : List ℕ → Result (List Key) SortFault
sort_of_text text = sort_of_keys (keys_of_text text)

-- ---- trees

-- the elements of a list; none of any other tree
abbrev pub elements_in : Json-F Json Member → List Json
elements_in layer.Null = []
elements_in (layer.Truth b) = []
elements_in (layer.Number n) = []
elements_in (layer.Text t) = []
elements_in (layer.List elements) = elements
elements_in (layer.Object members) = []

unfoldable pub elements_of : Json → List Json
elements_of tree = elements_in (out-Json tree)

abbrev pub filled : List ℕ → Option (List ℕ)
filled [] = None
filled (b ∷ text) = Some (b ∷ text)

-- the text, where it has a byte
abbrev pub name_in : Json-F Json Member → Option (List ℕ)
name_in layer.Null = None
name_in (layer.Truth b) = None
name_in (layer.Number n) = None
name_in (layer.Text text) = filled text
name_in (layer.List elements) = None
name_in (layer.Object members) = None

unfoldable pub name_of : Json → Option (List ℕ)
name_of tree = name_in (out-Json tree)

-- the name of an object's key, which is its member `field`
unfoldable pub field_of : Json → Option (List ℕ)
field_of tree = option_and_then name_of (member_value tree field_name)

-- whether the word is that of down; none where it is none of the two
unfoldable pub is_down_word : List ℕ → Option Bool
is_down_word word =
    if pointwise nat_eq word ascending_word then Some false
    else (if pointwise nat_eq word descending_word then Some true else None)

abbrev pub direction_in : Json-F Json Member → Option Bool
direction_in layer.Null = None
direction_in (layer.Truth b) = None
direction_in (layer.Number n) = None
direction_in (layer.Text word) = is_down_word word
direction_in (layer.List elements) = None
direction_in (layer.Object members) = None

abbrev pub direction_or_up : Option Json → Option Bool
direction_or_up None = Some false
direction_or_up (Some tree) = direction_in (out-Json tree)

-- whether an object's key is down: by its member `direction`, which need not be there
unfoldable pub direction_of : Json → Option Bool
direction_of tree = direction_or_up (member_value tree direction_name)

-- the key of an object that has a name and a direction
unfoldable pub key_of : Json → Key
key_of tree = record { name = unwrap_or (field_of tree) []; down = unwrap_or (direction_of tree) false }

abbrev pub has_no_name : Json → Bool
has_no_name tree = is_none (field_of tree)

abbrev pub has_no_direction : Json → Bool
has_no_direction tree = is_none (direction_of tree)

-- the sort of these objects; of all faults the first in this order is answered
abbrev pub sort_of_trees : List Json → Result (List Key) SortFault
sort_of_trees trees =
    if (length trees == 0) || list_any has_no_name trees then Err BadField
    else (if list_any has_no_direction trees then Err BadDirection
    else (if nat_lt 4 (length trees) then Err (TooManyKeys (length trees)) else Ok (map key_of trees)))

abbrev pub sort_of_tree : Json → Result (List Key) SortFault
sort_of_tree tree = sort_of_trees (elements_of tree)

-- ---- answers

-- what a reader answers where this is the answer; want of memory says nothing
abbrev pub Answers : Result (List Key) SortFault → Result (List Key) SortFault → Type 0
Answers (Err OutOfMemory) answer = Unit {0}
Answers result answer = result ≡ answer
