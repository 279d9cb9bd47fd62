use Rattle.sc_history.proofs.Counting.{stand_parts}
use Rattle.sc_history.proofs.Lawful.{all_items, each_item, each_part}
use Rattle.sc_history.proofs.laws.parts_stand_for_the_content.Goals as goal

pub returns : goal.returns
returns c = record { each = each_part; names = stand_parts; items = all_items; item = each_item }
