-- The filter of a search (STAC API, Filter extension; OGC 21-065r2), the language that it is in, and its coordinate system.
use Rattle.std.specs.Prelude.{◌≡◌, ◌≢◌, ℕ, nat_eq, if◌then◌else◌, List, Option, Some, None, Result, Ok, Err}
use Rattle.std.specs.Cmp.Lexicographic.{pointwise}
use Rattle.sc_json.specs.declared.tree.Json.{Json}
use Rattle.sc_expr.specs.declared.expr.Expr.{Expr}
use Rattle.sc_expr.specs.declared.fault.CqlFault.{CqlFault}
use Rattle.sc_expr.specs.declared.fault.CqlFault.TheVariants as filters
use Rattle.sc_cqlread.specs.Filters.{IsCqlText}
use Rattle.sc_cqlread.specs.Faults as in_texts
use Rattle.sc_cqljson.specs.Filters.{IsCqlTree, IsTreeFault}
use Rattle.sc_query.specs.declared.fault.QueryFault.{QueryFault}
use Rattle.sc_query.specs.declared.fault.QueryFault.TheVariants.{BadLang, BadCrs, BadFilter}
use Rattle.sc_query.specs.declared.filter.Language.{Language}
use Rattle.sc_query.specs.declared.filter.Language.TheVariants as languages
use Rattle.sc_query.specs.Given.{Parameter, in_text, in_tree, text_given, IsTree, IsNoTree}
use Rattle.sc_query.specs.Words.{text_language, tree_language, longitude_latitude}

-- ---- the language

abbrev pub language_named : Option (List ℕ) → Result Language QueryFault
language_named None = Err BadLang
language_named (Some word) =
    if pointwise nat_eq word text_language then Ok languages.Text
    else (if pointwise nat_eq word tree_language then Ok languages.Tree else Err BadLang)

abbrev pub some_language : Result Language QueryFault → Result (Option Language) QueryFault
some_language (Ok language) = Ok (Some language)
some_language (Err fault) = Err fault

-- the language that is named; it is judged whether there is a filter or not
abbrev pub language_given : Option Parameter → Result (Option Language) QueryFault
language_given None = Ok None
language_given (Some given) = some_language (language_named (text_given given))

-- where none is named, a filter in a text is CQL2 text, and one in a body is CQL2 JSON
abbrev pub language_of : Option Language → Parameter → Language
language_of (Some language) given = language
language_of None (in_text text) = languages.Text
language_of None (in_tree tree) = languages.Tree

-- ---- the coordinate system

abbrev pub crs_named : Option (List ℕ) → Result (Unit {0}) QueryFault
crs_named None = Err BadCrs
crs_named (Some word) = if pointwise nat_eq word longitude_latitude then Ok tt else Err BadCrs

-- it need not be named, and is judged whether there is a filter or not
abbrev pub crs_given : Option Parameter → Result (Unit {0}) QueryFault
crs_given None = Ok tt
crs_given (Some given) = crs_named (text_given given)

-- ---- the filter

-- the filter that is given in a language; the fault tells why it is none, but for CQL2 text that is no text and CQL2 JSON
-- that is no JSON value
pub data FilterReadsIn (given : Parameter) : Language → Result Expr QueryFault → Type 0 where
  of_text : (text : List ℕ) (filter : Expr) → text_given given ≡ Some text → IsCqlText text filter → FilterReadsIn given languages.Text (Ok filter)
  fault_of_text : (text : List ℕ) (fault : CqlFault) → text_given given ≡ Some text → in_texts.IsFault text fault → fault ≢ filters.OutOfMemory → FilterReadsIn given languages.Text (Err (BadFilter (Some fault)))
  no_text : text_given given ≡ None → FilterReadsIn given languages.Text (Err (BadFilter None))
  of_tree : (tree : Json) (filter : Expr) → IsTree given tree → IsCqlTree tree filter → FilterReadsIn given languages.Tree (Ok filter)
  fault_of_tree : (tree : Json) (fault : CqlFault) → IsTree given tree → IsTreeFault fault tree → fault ≢ filters.OutOfMemory → FilterReadsIn given languages.Tree (Err (BadFilter (Some fault)))
  no_tree : IsNoTree given → FilterReadsIn given languages.Tree (Err (BadFilter None))

abbrev pub FilterReads : Option Language → Parameter → Result Expr QueryFault → Type 0
FilterReads named given = FilterReadsIn given (language_of named given)
