-- The query of the parameters of a search (STAC API, Item Search, Filter and Sort extensions), or their first fault.
use Rattle.std.specs.Prelude.{◌≡◌, ℕ, List, Option, Some, None, Result, Ok, Err}
use Rattle.sc_json.specs.declared.tree.Json.{Json}
use Rattle.sc_json.specs.declared.tree.Member.{Member}
use Rattle.sc_json.specs.Views.{object_of}
use Rattle.sc_expr.specs.declared.expr.Expr.{Expr}
use Rattle.sc_expr.specs.declared.select.Select.{Select}
use Rattle.sc_expr.specs.declared.select.Pair.{Pair}
use Rattle.sc_expr.specs.Query.{Asked}
use Rattle.sc_query.specs.declared.fault.QueryFault.{QueryFault}
use Rattle.sc_query.specs.declared.fault.QueryFault.TheVariants.{BadIds, BadBody}
use Rattle.sc_query.specs.Words.{limit_name, bbox_name, datetime_name, intersects_name, ids_name, collections_name, language_name, crs_name, filter_name, sort_name, token_name}
use Rattle.sc_query.specs.Given.{Parameters, of_pairs, of_body}
use Rattle.sc_query.specs.Reading.{Then, Gives, Optional}
use Rattle.sc_query.specs.Limit.{limit_of}
use Rattle.sc_query.specs.Space.{BboxReads, DatetimeReads, IntersectsReads, only_one}
use Rattle.sc_query.specs.Names.{names_given, collections_within}
use Rattle.sc_query.specs.Filters.{language_given, crs_given, FilterReads}
use Rattle.sc_query.specs.Order.{sort_given, TokenReads}

-- what a function gives, as something that is read
abbrev pub Is : {A : Type 0} → Result A QueryFault → Result A QueryFault → Type 0
Is answer result = result ≡ answer

abbrev pub FilterOf : Parameters → Result (Option Expr) QueryFault → Type 0
FilterOf given =
    Then (Is (language_given (given language_name))) (λ language.
    Then (Is (crs_given (given crs_name))) (λ _.
    Optional (FilterReads language) (given filter_name)))

-- what is selected, within one collection or not
abbrev pub SelectOf : Option (List ℕ) → Parameters → Result Select QueryFault → Type 0
SelectOf within given =
    Then (Optional BboxReads (given bbox_name)) (λ rects.
    Then (Optional DatetimeReads (given datetime_name)) (λ time.
    Then (Optional IntersectsReads (given intersects_name)) (λ shape.
    Then (Is (only_one rects shape)) (λ _.
    Then (Is (names_given BadIds (given ids_name))) (λ ids.
    Then (Is (collections_within within (given collections_name))) (λ collections.
    Then (FilterOf given) (λ filter.
    Gives (record { collections = collections; ids = ids; time = time; rects = rects; shape = shape; filter = filter }))))))))

-- the query that parameters are, within one collection or not; of the faults that they have the first in this order is
-- answered
abbrev pub QueryOf : Option (List ℕ) → Parameters → Result Asked QueryFault → Type 0
QueryOf within given =
    Then (Is (limit_of (given limit_name))) (λ limit.
    Then (SelectOf within given) (λ select.
    Then (Is (sort_given (given sort_name))) (λ sort.
    Then (Optional (TokenReads sort) (given token_name)) (λ after.
    Gives (record { select = select; sort = sort; limit = limit; after = after })))))

-- a body that is no object has no parameters
abbrev pub object_judged : Option (List Member) → Result (Unit {0}) QueryFault
object_judged None = Err BadBody
object_judged (Some members) = Ok tt

-- the query of a query string's pairs
abbrev pub QueryOfPairs : List Pair → Result Asked QueryFault → Type 0
QueryOfPairs pairs = QueryOf None (of_pairs pairs)

-- the same within one collection: pairs that name collections are left out
abbrev pub QueryWithin : List ℕ → List Pair → Result Asked QueryFault → Type 0
QueryWithin collection pairs = QueryOf (Some collection) (of_pairs pairs)

-- the query of a body
abbrev pub QueryOfBody : Json → Result Asked QueryFault → Type 0
QueryOfBody body = Then (Is (object_judged (object_of body))) (λ _. QueryOf None (of_body body))
