-- The command, as what `clap` reads of it.
use Rattle.std.specs.Prelude.{◌≡◌, ◌==◌, ◌&&◌, if◌then◌else◌, option_map, option_and_then, Bool, true, false, List, [], ◌∷◌, codes, Option, Some, None, ⊤}
use Rattle.std.specs.Str.{bytes_eq}
use Rattle.clap.specs.Words.{App, Shape, Rule, Text, Row, first_of, new_rule}
use Rattle.clap.specs.Simple.{new_shape}

-- the word doesn't begin with `-`
abbrev pub IsPlainWord : Text → Type 0
IsPlainWord [] = ⊤
IsPlainWord (x ∷ t) = (x == 45) ≡ false

abbrev pub positional : Text → Rule
positional id = record (new_rule id) { required = true }

abbrev pub rules_for : List Text → List Rule
rules_for [] = []
rules_for (id ∷ ids) = positional id ∷ rules_for ids

abbrev pub leaf : Text → List Text → Shape
leaf name ids = record (new_shape name) { rules = rules_for ids }

abbrev pub page : Shape
page = leaf (codes "page") (codes "a" ∷ [])

abbrev pub pipe : Shape
pipe = leaf (codes "pipe") (codes "a" ∷ [])

abbrev pub serve : Shape
serve = leaf (codes "serve") (codes "a" ∷ (codes "b" ∷ (codes "c" ∷ (codes "d" ∷ []))))

abbrev pub keep : Shape
keep = leaf (codes "keep") (codes "a" ∷ (codes "b" ∷ (codes "c" ∷ (codes "d" ∷ []))))

abbrev pub bare : App
bare = record {
  top = record (new_shape (codes "stacd")) {
    no_binary_name = true;
    disable_help_flag = true;
    disable_help_subcommand = true;
  };
  subs = [];
}

abbrev pub stacd : App
stacd = record {
  top = record (new_shape (codes "stacd")) {
    no_binary_name = true;
    disable_help_flag = true;
    disable_help_subcommand = true;
    is_leaf = false;
  };
  subs = page ∷ (pipe ∷ (serve ∷ (keep ∷ [])));
}

abbrev pub AllPlain : List Text → Type 0
AllPlain [] = ⊤
AllPlain (w ∷ rest) = IsPlainWord w × AllPlain rest

abbrev pub has_one : List Text → Bool
has_one [] = false
has_one (a ∷ []) = true
has_one (a ∷ (b ∷ rest)) = false

abbrev pub has_four : List Text → Bool
has_four (a ∷ (b ∷ (c ∷ (d ∷ [])))) = true
has_four _ = false

-- the name of a command with its words, where the words are one of the forms
abbrev pub form_of : List Text → Option (Text × List Text)
form_of [] = None
form_of (w ∷ rest) =
    if bytes_eq w (codes "page") && has_one rest then Some (codes "page", rest)
    else (if bytes_eq w (codes "pipe") && has_one rest then Some (codes "pipe", rest)
    else (if bytes_eq w (codes "serve") && has_four rest then Some (codes "serve", rest)
    else (if bytes_eq w (codes "keep") && has_four rest then Some (codes "keep", rest)
    else None)))

abbrev pub texts_in : List Row → List Text → Option (List Text)
texts_in rows [] = Some []
texts_in rows (id ∷ ids) = option_and_then (λ t. option_map (λ ts. t ∷ ts) (texts_in rows ids)) (first_of id rows)

abbrev pub with_name : Text → Option (List Text) → Option (Text × List Text)
with_name name = option_map (λ ts. (name, ts))

-- the same of the rows that a parse found
abbrev pub form_in : Text → List Row → Option (Text × List Text)
form_in name rows =
    if bytes_eq name (codes "page") then with_name (codes "page") (texts_in rows (codes "a" ∷ []))
    else (if bytes_eq name (codes "pipe") then with_name (codes "pipe") (texts_in rows (codes "a" ∷ []))
    else (if bytes_eq name (codes "serve") then with_name (codes "serve") (texts_in rows (codes "a" ∷ (codes "b" ∷ (codes "c" ∷ (codes "d" ∷ [])))))
    else (if bytes_eq name (codes "keep") then with_name (codes "keep") (texts_in rows (codes "a" ∷ (codes "b" ∷ (codes "c" ∷ (codes "d" ∷ [])))))
    else None)))

abbrev pub form_met : Option (Text × List Row) → Option (Text × List Text)
form_met None = None
form_met (Some p) = form_in p.0 p.1
