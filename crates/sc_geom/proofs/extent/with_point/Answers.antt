use Rattle.std.proofs.Common.{◌≡◌, [], ◌∷◌, ap, subst, arith}
use Rattle.std.proofs.lemmas.Int.{ints, clamps}
use Rattle.sc_geom.specs.Rectangle.{Rectangle, Encloses, IsSmallest}
use Rattle.sc_geom.proofs.Smallest.{smallest_first, smallest_more}
use Rattle.sc_geom.proofs.extent.with_point.Goals as goal

pub new-requires-in-Some : goal.new-requires-in-Some
new-requires-in-Some c = record {
  west_in = (omega (arith, ints, clamps), omega (arith, ints, clamps));
  east_in = (omega (arith, ints, clamps), omega (arith, ints, clamps));
  south_in = (omega (arith, ints, clamps), omega (arith, ints, clamps));
  north_in = (omega (arith, ints, clamps), omega (arith, ints, clamps));
  across = omega (arith, ints, clamps);
  up = omega (arith, ints, clamps);
}

pub returns-in-None : goal.returns-in-None
returns-in-None c = λ before is.
    let empty : before ≡ [] = subst (λ b. Encloses b before) c.in-None.is is in
    let first : IsSmallest c.new.result (c.args.point ∷ []) = smallest_first c.args.point c.new.result
    (omega (arith, ints, ap (λ (r : Rectangle). r.west) c.new.ensures)) (omega (arith, ints, ap (λ (r : Rectangle). r.south) c.new.ensures))
    (omega (arith, ints, ap (λ (r : Rectangle). r.east) c.new.ensures)) (omega (arith, ints, ap (λ (r : Rectangle). r.north) c.new.ensures)) in
    rw empty first

pub returns-in-Some : goal.returns-in-Some
returns-in-Some c = λ before is.
    smallest_more c.in-Some.extent c.args.point before c.new-in-Some.result (subst (λ b. Encloses b before) c.in-Some.is is)
    (omega (arith, ints, clamps, ap (λ (r : Rectangle). r.west) c.new-in-Some.ensures))
    (omega (arith, ints, clamps, ap (λ (r : Rectangle). r.south) c.new-in-Some.ensures))
    (omega (arith, ints, clamps, ap (λ (r : Rectangle). r.east) c.new-in-Some.ensures))
    (omega (arith, ints, clamps, ap (λ (r : Rectangle). r.north) c.new-in-Some.ensures))
