use Rattle.std.proofs.Common.{◌≡◌, drop}
use Rattle.std.specs.List.{list_any, list_all}
use Rattle.std.specs.Str.{bytes_eq}
use Rattle.sc_geom.specs.Rectangle.{overlap}
use Rattle.sc_need.specs.Match.{may_touch}
use Rattle.sc_need.proofs.matching.touches_one.Given as goal

abbrev pub invariant-loop-one : goal.invariant-loop-one
invariant-loop-one l = list_any (overlap l.place) (drop l.one-index l.boxes) ≡ list_any (overlap l.fn.place) l.fn.boxes
