use Rattle.std.proofs.Common.{refl}
use Rattle.std.proofs.lemmas.List.{drop_all}
use Rattle.sc_shelf.proofs.touch.kept_from_with.Goals as goal

pub returns-in-None : goal.returns-in-None
returns-in-None c = rw (drop_all 63 c.args.additions.now c.in-None.ensures.lookup.3) refl
