use Rattle.sc_chain.proofs.Queries.{query_one}
use Rattle.sc_chain.proofs.laws.one_query.Goals as goal

pub returns : goal.returns
returns c = query_one c.one_answer.ensures.filter c.one_answer.ensures.no_fault
