use Rattle.sc_chain.proofs.Addresses.{address_read}
use Rattle.sc_chain.proofs.laws.next_addresses_are_read.Goals as goal

pub returns : goal.returns
returns c = address_read
