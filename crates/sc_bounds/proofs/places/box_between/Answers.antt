use Rattle.std.proofs.Common.{arith, subst, sym, ◌≡◌, Some, None, cond}
use Rattle.std.proofs.lemmas.Int.{ints}
use Rattle.sc_geom.specs.Rectangle.{Rectangle}
use Rattle.sc_bounds.specs.Places.{has_points}
use Rattle.sc_bounds.proofs.PointSets.{no_box_across, no_box_up}
use Rattle.sc_bounds.proofs.places.box_between.Goals as goal

pub returns-then-east-west : goal.returns-then-east-west
returns-then-east-west c box is =
    let P : Rectangle → Type 0 = λ r. None ≡ cond (has_points r) (Some r) None in
    subst P (sym is) (no_box_across (record { west = c.args.west; south = c.args.south; east = c.args.east; north = c.args.north }) (omega (arith, ints)))

pub returns-then-north-south : goal.returns-then-north-south
returns-then-north-south c box is =
    let P : Rectangle → Type 0 = λ r. None ≡ cond (has_points r) (Some r) None in
    subst P (sym is) (no_box_up (record { west = c.args.west; south = c.args.south; east = c.args.east; north = c.args.north }) (omega (arith, ints)) (omega (arith, ints)))
