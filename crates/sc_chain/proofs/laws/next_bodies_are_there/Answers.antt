use Rattle.sc_chain.proofs.Bodies.{next_body_is}
use Rattle.sc_chain.proofs.laws.next_bodies_are_there.Goals as goal

pub returns : goal.returns
returns c = next_body_is
