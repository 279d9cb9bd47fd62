use Rattle.std.proofs.Common.{map, subst}
use Rattle.sc_part.specs.Scan.{reach}
use Rattle.sc_bounds.specs.Sets.{hull}
use Rattle.std.proofs.Common.{◌≡◌}
use Rattle.sc_part.proofs.Boxes.{one_hull}
use Rattle.sc_part.proofs.version.PartVersion.hull.Goals as goal

pub returns-clause-value : goal.returns-clause-value
returns-clause-value c =
    let i = c.self.invariant in
    subst (λ v. c.self.inside.hull ≡ hull (map reach v.items)) c.self.view_is (one_hull c.self.inside.hull _ c.place-place.ensures.kept i.kept.each i.hull)
