-- Requests that follow one another give a chain of pages.
use Rattle.std.proofs.Common.{◌≡◌, List, Some, None, Result, Ok, refl, subst}
use Rattle.std.specs.List.{All}
use Rattle.std.proofs.lemmas.List.Sorted.{All-permutation}
use Rattle.sc_item.specs.Feature.{Feature}
use Rattle.sc_sort.specs.Keys.{Keys}
use Rattle.sc_token.specs.Fits.{FitsSort}
use Rattle.sc_expr.specs.Query.{Asked}
use Rattle.sc_query.specs.declared.fault.QueryFault.{QueryFault}
use Rattle.sc_chain.specs.Chain.{behind, IsPageOf, IsChain, last, followed}
use Rattle.sc_chain.specs.Next.{HasShortName, AreFollowed, one_page, more_pages}
use Rattle.sc_chain.proofs.Fitting.{place_fits}
use Rattle.sc_chain.proofs.Queries.{IsOneReading, one_ok}

module _ {Request : Type 0} (Reads : Request → Result Asked QueryFault → Type 0) (IsNext : Request → Keys → Request → Type 0) (one : (request : Request) → IsOneReading (Reads request))
    (step : (request next : Request) (asked : Asked) (place : Keys) → Reads request (Ok asked) → FitsSort asked.sort place → IsNext request place next → Reads next (Ok (behind asked place)))
    (items : List Feature) (short : All HasShortName items) where
  pub chain_of : (request : Request) (asked : Asked) (pages : List (List Feature)) → Reads request (Ok asked) → AreFollowed Reads IsNext items request pages → IsChain items asked pages
  chain_of request asked pages q (one_page _ a page r p) =
      let e : a ≡ asked = one_ok (Ok a) a asked refl (one request asked (Ok a) q r) in
      last asked page (subst (λ x. IsPageOf x items page None) e p)
  chain_of request asked pages q (more_pages _ next a page place more r p kept is f) =
      let e : a ≡ asked = one_ok (Ok a) a asked refl (one request asked (Ok a) q r) in
      let here : IsPageOf asked items page (Some place) = subst (λ x. IsPageOf x items page (Some place)) e p in
      let fits = place_fits asked here.kept page place here.is_page (All-permutation HasShortName items here.kept here.same short) kept in
      followed asked page place more here (chain_of next (behind asked place) more (step request next asked place q fits is) f)
