use Rattle.sc_chain.proofs.Chunking.{opened_within}
use Rattle.sc_chain.proofs.Divided.{chunks_are}
use Rattle.sc_chain.proofs.laws.opened_within_chunks.Goals as goal

pub returns : goal.returns
returns c = record { within = opened_within; chunks = chunks_are }
