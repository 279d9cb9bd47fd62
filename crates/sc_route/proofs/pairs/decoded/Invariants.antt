use Rattle.form_urlencoded.specs.Form.{raw_pairs}
use Rattle.form_urlencoded.specs.Parse.{pairs_left}
use Rattle.sc_route.specs.Pairs.{ReadSoFar}
use Rattle.sc_route.proofs.pairs.decoded.Given as goal

abbrev pub invariant-loop-item : goal.invariant-loop-item
invariant-loop-item l = ReadSoFar (raw_pairs l.query) (pairs_left l.item-iterator) l.pairs.items
