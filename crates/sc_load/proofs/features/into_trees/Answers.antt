use Rattle.std.proofs.Common.{sym, subst}
use Rattle.std.specs.List.{All}
use Rattle.sc_json.specs.Good.{Good}
use Rattle.sc_load.proofs.Goods.{good_features}
use Rattle.sc_load.proofs.features.into_trees.Goals as goal

pub returns-in-Ok-clause-good : goal.returns-in-Ok-clause-good
returns-in-Ok-clause-good c = subst (All Good) (sym c.into_vec.ensures) (good_features c.args.tree c.in-Ok.features c.requires c.in-Ok.ensures)
