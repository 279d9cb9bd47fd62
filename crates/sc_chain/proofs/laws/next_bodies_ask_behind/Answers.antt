use Rattle.std.proofs.Common.{None}
use Rattle.sc_chain.specs.Chain.{behind}
use Rattle.sc_chain.proofs.Bodies.{body_reads, body_one}
use Rattle.sc_chain.proofs.laws.next_bodies_ask_behind.Goals as goal

pub returns : goal.returns
returns c = record {
  reads = λ body next asked place q f h. body_reads body next place asked h q f;
  only = λ body next asked place answer q f h n. body_one next (c.one_query.ensures None) (behind asked place) answer (body_reads body next place asked h q f) n;
}
