use Rattle.sc_chain.proofs.Chaining.{all_joined, only_joined, apart_joined}
use Rattle.sc_chain.proofs.laws.pages_join.Goals as goal

pub returns : goal.returns
returns c = record { all = all_joined; only = only_joined; apart = apart_joined }
