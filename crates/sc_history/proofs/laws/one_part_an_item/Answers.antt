use Rattle.sc_history.proofs.Lawful.{cut_is, fits_test, item_one_part, item_part, no_cut}
use Rattle.sc_history.proofs.laws.one_part_an_item.Goals as goal

pub returns : goal.returns
returns c = record { test = fits_test; cut = cut_is; no_cut = no_cut; there = item_part; only = item_one_part }
