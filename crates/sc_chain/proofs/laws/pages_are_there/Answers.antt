use Rattle.std.proofs.Common.{suc, filter, length, arith}
use Rattle.sc_page.specs.Search.{is_asked}
use Rattle.sc_chain.proofs.Chaining.{chain_is}
use Rattle.sc_chain.proofs.laws.pages_are_there.Goals as goal

pub returns : goal.returns
returns c items asked some apart = chain_is (suc (length (filter (is_asked asked) items))) items asked some apart (omega arith)
