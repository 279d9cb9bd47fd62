use Rattle.sc_query.specs.Given.{of_pairs}
use Rattle.sc_chain.specs.Chain.{behind}
use Rattle.sc_chain.specs.Next.{next_request}
use Rattle.sc_chain.proofs.Asking as lemmas
use Rattle.sc_chain.proofs.Pairing.{pairs_token}
use Rattle.sc_chain.proofs.laws.next_pairs_ask_behind.Goals as goal

pub returns : goal.returns
returns c = record {
  reads = λ within pairs asked place. lemmas.reads within (of_pairs pairs) (of_pairs (next_request pairs place)) place (pairs_token pairs place) asked;
  only = λ within pairs asked place answer q f n.
      c.one_query.ensures within (of_pairs (next_request pairs place)) (behind asked place) answer
      (lemmas.reads within (of_pairs pairs) (of_pairs (next_request pairs place)) place (pairs_token pairs place) asked q f) n;
}
