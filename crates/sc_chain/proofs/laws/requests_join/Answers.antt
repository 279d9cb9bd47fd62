use Rattle.std.proofs.Common.{◌≡◌, ℕ, List, Option, Ok, sym, subst}
use Rattle.std.specs.List.{All}
use Rattle.sc_item.specs.Feature.{Feature}
use Rattle.sc_expr.specs.declared.select.Pair.{Pair}
use Rattle.sc_expr.specs.Query.{Asked}
use Rattle.sc_query.specs.Given.{of_pairs, Parameters}
use Rattle.sc_query.specs.Query.{QueryOf}
use Rattle.sc_chain.specs.Chain.{behind, IsChain}
use Rattle.sc_chain.specs.Next.{next_request, HasShortName, PairsFollowed}
use Rattle.sc_chain.proofs.Asking.{query_limit}
use Rattle.sc_chain.proofs.Chaining as lemmas
use Rattle.sc_chain.proofs.Pairing.{pairs_read}
use Rattle.sc_chain.proofs.Queries.{IsOneReading}
use Rattle.sc_chain.proofs.Requests.{chain_of}
use Rattle.sc_chain.proofs.laws.requests_join.Goals as goal

pairs_chain : (within : Option (List ℕ)) → ((given : Parameters) → IsOneReading (QueryOf within given)) → (items : List Feature) (pairs : List Pair) (asked : Asked) (pages : List (List Feature)) → All HasShortName items
    → QueryOf within (of_pairs pairs) (Ok asked) → PairsFollowed within items pairs pages → IsChain items asked pages
pairs_chain within one items pairs asked pages short =
    chain_of (λ (request : List Pair). QueryOf within (of_pairs request)) (λ request place next. next ≡ next_request request place) (λ request. one (of_pairs request))
    (λ request next asked place q f e. subst (λ (r : List Pair). QueryOf within (of_pairs r) (Ok (behind asked place))) (sym e) (pairs_read within request asked place q f))
    items short pairs asked pages

pub returns : goal.returns
returns c = record {
  chain = λ within. pairs_chain within (c.one_query.ensures within);
  all = λ within items pairs asked pages short q f.
      lemmas.all_joined items asked pages (query_limit within (of_pairs pairs) asked q) (pairs_chain within (c.one_query.ensures within) items pairs asked pages short q f);
  few = λ within items pairs asked pages short q f.
      lemmas.few items asked pages (query_limit within (of_pairs pairs) asked q) (pairs_chain within (c.one_query.ensures within) items pairs asked pages short q f);
}
