-- Parameters of which the token alone is another ask for the same behind another place.
use Rattle.std.proofs.lemmas.Bool.Decides.{nat_tests}
use Rattle.std.proofs.Common.{◌≤◌, Bool, true, cond, ◌==◌, min, arith, ◌≡◌, ℕ, false, nat_eq, List, Option, Some, None, Result, Ok, Err, refl, sym, ap, subst, ◌∙◌}
use Rattle.std.specs.Cmp.Lexicographic.{pointwise}
use Rattle.sc_sort.specs.Keys.{Keys}
use Rattle.sc_token.specs.Token.{token_of}
use Rattle.sc_token.specs.Fits.{FitsSort}
use Rattle.sc_expr.specs.declared.select.Select.{Select}
use Rattle.sc_expr.specs.Query.{Asked}
use Rattle.sc_query.specs.declared.fault.QueryFault.{QueryFault}
use Rattle.sc_query.specs.declared.fault.QueryFault.TheVariants.{BadLimit}
use Rattle.sc_query.specs.Words.{limit_name, bbox_name, datetime_name, intersects_name, ids_name, collections_name, language_name, crs_name, filter_name, sort_name, token_name}
use Rattle.sc_query.specs.Given.{Parameter, Parameters, text_given}
use Rattle.sc_query.specs.Reading.{goes_on, Optional}
use Rattle.sc_query.specs.Limit.{count_given, limit_of, served}
use Rattle.sc_query.specs.Order.{sort_given, TokenReads, place}
use Rattle.sc_query.specs.Query.{SelectOf, QueryOf}
use Rattle.sc_chain.specs.Chain.{behind}
use Rattle.sc_chain.proofs.Queries.{one_ok}

-- a name that isn't that of the token
abbrev pub IsOther : List ℕ → Type 0
IsOther name = pointwise nat_eq token_name name ≡ false

pub other_limit : IsOther limit_name
unfolding token_name limit_name
other_limit = refl

pub other_bbox : IsOther bbox_name
unfolding token_name bbox_name
other_bbox = refl

pub other_datetime : IsOther datetime_name
unfolding token_name datetime_name
other_datetime = refl

pub other_intersects : IsOther intersects_name
unfolding token_name intersects_name
other_intersects = refl

pub other_ids : IsOther ids_name
unfolding token_name ids_name
other_ids = refl

pub other_collections : IsOther collections_name
unfolding token_name collections_name
other_collections = refl

pub other_language : IsOther language_name
unfolding token_name language_name
other_language = refl

pub other_crs : IsOther crs_name
unfolding token_name crs_name
other_crs = refl

pub other_filter : IsOther filter_name
unfolding token_name filter_name
other_filter = refl

pub other_sort : IsOther sort_name
unfolding token_name sort_name
other_sort = refl

-- what is read for each part of a query
pub record IsRead (within : Option (List ℕ)) (given : Parameters) (asked : Asked) : Type 0 where
  pub limit : Ok asked.limit ≡ limit_of (given limit_name)
  pub select : SelectOf within given (Ok asked.select)
  pub sort : Ok asked.sort ≡ sort_given (given sort_name)
  pub after : Optional (TokenReads asked.sort) (given token_name) (Ok asked.after)

is_read : (within : Option (List ℕ)) (given : Parameters) (asked : Asked) → QueryOf within given (Ok asked) → IsRead within given asked
is_read within given asked (goes_on limit _ l (goes_on select _ s (goes_on sort _ o (goes_on after _ t e)))) =
    subst (IsRead within given) (sym (one_ok (Ok asked) asked (record { select = select; sort = sort; limit = limit; after = after }) refl e)) (record { limit = l; select = s; sort = o; after = t })

of_read : (within : Option (List ℕ)) (given : Parameters) (asked : Asked) → IsRead within given asked → QueryOf within given (Ok asked)
of_read within given asked r = goes_on asked.limit (Ok asked) r.limit (goes_on asked.select (Ok asked) r.select (goes_on asked.sort (Ok asked) r.sort (goes_on asked.after (Ok asked) r.after refl)))

-- the token of the place is given, and all else as before
pub record HasOtherToken (given next : Parameters) (key : Keys) : Type 0 where
  pub others : (name : List ℕ) → IsOther name → next name ≡ given name
  pub token : Parameter
  pub there : next token_name ≡ Some token
  pub text : text_given token ≡ Some (token_of key)

module _ (within : Option (List ℕ)) (given next : Parameters) (key : Keys) (h : HasOtherToken given next key) where
  select_next : (result : Result Select QueryFault) → SelectOf within given result → SelectOf within next result
  select_next result s =
      rw (
        h.others bbox_name other_bbox,
        h.others datetime_name other_datetime,
        h.others intersects_name other_intersects,
        h.others ids_name other_ids,
        h.others collections_name other_collections,
        h.others language_name other_language,
        h.others crs_name other_crs,
        h.others filter_name other_filter,
      ) s

  limit_same : limit_of (next limit_name) ≡ limit_of (given limit_name)
  limit_same = ap limit_of (h.others limit_name other_limit)

  sort_same : sort_given (next sort_name) ≡ sort_given (given sort_name)
  sort_same = ap sort_given (h.others sort_name other_sort)

  pub reads : (asked : Asked) → QueryOf within given (Ok asked) → FitsSort asked.sort key → QueryOf within next (Ok (behind asked key))
  reads asked q f =
      let r = is_read within given asked q in
      of_read within next (behind asked key) (record {
        limit = r.limit ∙ sym limit_same;
        select = select_next (Ok asked.select) r.select;
        sort = r.sort ∙ sym sort_same;
        after = subst (λ t. Optional (TokenReads asked.sort) t (Ok (Some key))) (sym h.there) (place (token_of key) key h.text (record { fits = f; token = refl }));
      })

-- the limit of a query is from 1
served_some : (count : Option ℕ) (n : ℕ) → Ok n ≡ served count → 1 ≤ n
served_some None n e = cc
served_some (Some count) n e = go (count == 0) refl e
  where
    go : (b : Bool) → (count == 0) ≡ b → Ok n ≡ cond b (Err BadLimit) (Ok (min count 10_000)) → 1 ≤ n
    go true z e = cc
    go false z e =
        let f : n ≡ min count 10_000 = one_ok (Ok n) n (min count 10_000) refl e in
        grind (arith, nat_tests)

limit_some : (given : Option Parameter) (n : ℕ) → Ok n ≡ limit_of given → 1 ≤ n
limit_some None n e = let f : n ≡ 10 = one_ok (Ok n) n 10 refl e in omega (arith, f)
limit_some (Some given) n e = served_some (count_given given) n e

pub query_limit : (within : Option (List ℕ)) (given : Parameters) (asked : Asked) → QueryOf within given (Ok asked) → 1 ≤ asked.limit
query_limit within given asked q = limit_some (given limit_name) asked.limit (is_read within given asked q).limit
