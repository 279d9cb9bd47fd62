use Rattle.std.proofs.Common.{sym, subst}
use Rattle.std.specs.List.{AllPass}
use Rattle.sc_sort.specs.Keys.{is_short}
use Rattle.sc_page.proofs.Fronts.{all_short}
use Rattle.sc_page.proofs.key.key_of_item.Goals as goal

pub unreachable-requires : goal.unreachable-requires
unreachable-requires c = c.in-None.ensures (subst (AllPass is_short) (sym c.in_ok-values.ensures) (all_short c.keys.result.now c.args.item.now))
