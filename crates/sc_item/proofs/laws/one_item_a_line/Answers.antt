use Rattle.sc_item.proofs.Lines.{one_item}
use Rattle.sc_item.proofs.laws.one_item_a_line.Goals as goal

pub returns : goal.returns
returns c = one_item
