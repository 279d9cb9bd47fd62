-- Which items, and of which collections, a search asks for (STAC API, Item Search, `ids` and `collections`).
use Rattle.std.specs.Prelude.{ℕ, Bool, ◌||◌, ◌==◌, nat_lt, if◌then◌else◌, List, [], ◌∷◌, length, Option, Some, None, Result, Ok, Err}
use Rattle.std.specs.List.{list_any}
use Rattle.std.specs.Option.{option_and_then}
use Rattle.sc_base.specs.Parts.{parts_between}
use Rattle.sc_json.specs.Views.{text_of, list_of}
use Rattle.sc_geom.specs.Drawn.{all_read}
use Rattle.sc_query.specs.declared.fault.QueryFault.{QueryFault}
use Rattle.sc_query.specs.declared.fault.QueryFault.TheVariants.{BadCollections}
use Rattle.sc_query.specs.Given.{Parameter, in_text, in_tree}

-- texts between commas, or a list of texts
abbrev pub texts_given : Parameter → Option (List (List ℕ))
texts_given (in_text text) = Some (parts_between 44 text)
texts_given (in_tree tree) = option_and_then (all_read text_of) (list_of tree)

abbrev pub is_empty : List ℕ → Bool
is_empty text = length text == 0

-- an empty list restricts nothing
abbrev pub unless_none : List (List ℕ) → Option (List (List ℕ))
unless_none [] = None
unless_none (name ∷ names) = Some (name ∷ names)

-- none of the names is empty, and there are at most 10,000
abbrev pub names_of : QueryFault → Option (List (List ℕ)) → Result (Option (List (List ℕ))) QueryFault
names_of fault None = Err fault
names_of fault (Some names) = if list_any is_empty names || nat_lt 10_000 (length names) then Err fault else Ok (unless_none names)

-- the names that are asked for; all where none are given
abbrev pub names_given : QueryFault → Option Parameter → Result (Option (List (List ℕ))) QueryFault
names_given fault None = Ok None
names_given fault (Some given) = names_of fault (texts_given given)

-- within a collection there is that one alone, whatever is given
abbrev pub collections_within : Option (List ℕ) → Option Parameter → Result (Option (List (List ℕ))) QueryFault
collections_within None given = names_given BadCollections given
collections_within (Some collection) given = Ok (Some (collection ∷ []))
