use Rattle.sc_wkt.proofs.Finishing.{memory_alone}
use Rattle.sc_wkt.proofs.laws.memory_alone_is_wanting.Goals as goal

pub returns : goal.returns
returns c = memory_alone
