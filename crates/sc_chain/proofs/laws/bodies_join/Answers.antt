use Rattle.std.proofs.Common.{List, None, Ok}
use Rattle.std.specs.List.{All}
use Rattle.sc_json.specs.declared.tree.Json.{Json}
use Rattle.sc_item.specs.Feature.{Feature}
use Rattle.sc_expr.specs.Query.{Asked}
use Rattle.sc_query.specs.Given.{Parameters}
use Rattle.sc_query.specs.Query.{QueryOf, QueryOfBody}
use Rattle.sc_chain.specs.Chain.{IsChain}
use Rattle.sc_chain.specs.Next.{IsNextBody, HasShortName, BodiesFollowed}
use Rattle.sc_chain.proofs.Bodies.{body_limit, body_one, body_reads}
use Rattle.sc_chain.proofs.Chaining as lemmas
use Rattle.sc_chain.proofs.Queries.{IsOneReading}
use Rattle.sc_chain.proofs.Requests.{chain_of}
use Rattle.sc_chain.proofs.laws.bodies_join.Goals as goal

bodies_chain : ((given : Parameters) → IsOneReading (QueryOf None given)) → (items : List Feature) (body : Json) (asked : Asked) (pages : List (List Feature)) → All HasShortName items
    → QueryOfBody body (Ok asked) → BodiesFollowed items body pages → IsChain items asked pages
bodies_chain one items body asked pages short =
    chain_of QueryOfBody IsNextBody (λ request. body_one request one) (λ request next asked place q f is. body_reads request next place asked is q f) items short body asked pages

pub returns : goal.returns
returns c = record {
  chain = bodies_chain (c.one_query.ensures None);
  all = λ items body asked pages short q f. lemmas.all_joined items asked pages (body_limit body asked q) (bodies_chain (c.one_query.ensures None) items body asked pages short q f);
  few = λ items body asked pages short q f. lemmas.few items asked pages (body_limit body asked q) (bodies_chain (c.one_query.ensures None) items body asked pages short q f);
}
