use Rattle.std.proofs.Common.{arith, ◌≡◌, length}
use Rattle.std.proofs.lemmas.Bool.Decides.{nat_tests}
use Rattle.sc_part.specs.Scan.{shared}
use Rattle.sc_item.specs.Feature.{IsKept}
use Rattle.sc_part.proofs.Hulls.{each_joined, joined}
use Rattle.sc_part.proofs.hull.hull_after.Goals as goal

pub returns-then-is_empty-clause-hull : goal.returns-then-is_empty-clause-hull
returns-then-is_empty-clause-hull c =
    let none : length c.args.gone.now ≡ 0 = grind (arith, nat_tests) in
    λ old before same. joined c.args.gone.now (shared c.args.come.now) old (shared c.args.items.now) c.args.before.now c.hull_of_items.result c.join.result none before c.hull_of_items.ensures.hull c.join.ensures.join same

pub returns-then-is_empty-clause-kept : goal.returns-then-is_empty-clause-kept
returns-then-is_empty-clause-kept c old before same = each_joined IsKept c.args.gone.now (shared c.args.come.now) old (shared c.args.items.now) before c.hull_of_items.ensures.kept same
