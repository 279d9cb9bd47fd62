use Rattle.std.proofs.Common.{◌≡◌, drop}
use Rattle.std.specs.List.{list_any, list_all}
use Rattle.std.specs.Str.{bytes_eq}
use Rattle.sc_need.specs.Match.{may_touch}
use Rattle.sc_need.proofs.matching.touches_all.Given as goal

abbrev pub invariant-loop-boxes : goal.invariant-loop-boxes
invariant-loop-boxes l = list_all (may_touch l.place) (drop l.boxes-index l.places) ≡ list_all (may_touch l.fn.place) l.fn.places
