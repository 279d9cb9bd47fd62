use Rattle.sc_history.proofs.Counting.{one_list_of_parts}
use Rattle.sc_history.proofs.Belonging.{items_parted}
use Rattle.sc_history.proofs.Existing.{parts_of}
use Rattle.sc_history.proofs.laws.one_list_of_parts.Goals as goal

pub returns : goal.returns
returns c = record { there = parts_of; names = one_list_of_parts; items = items_parted }
