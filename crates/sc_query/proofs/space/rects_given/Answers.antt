use Rattle.std.proofs.Common.{List, sym, subst}
use Rattle.sc_decimal.specs.Number.{Number}
use Rattle.sc_geom.specs.Rects as boxes
use Rattle.sc_query.specs.Sources.{told}
use Rattle.sc_query.proofs.Boxes.{found, not_found}
use Rattle.sc_query.proofs.space.rects_given.Goals as goal

pub returns-in-Some : goal.returns-in-Some
returns-in-Some c = let e = rw c.in-Some.is at c.in_ok-numbers.ensures in found (told c.args.given) c.in-Some.numbers.items c.rects_of_bbox.result (sym e) (subst (λ (ns : List Number). boxes.Answers ns c.rects_of_bbox.result) c.as_slice.ensures.value c.rects_of_bbox.ensures)

pub returns-in-None : goal.returns-in-None
returns-in-None c = let e = rw c.in-None.is at c.in_ok-numbers.ensures in not_found (told c.args.given) (sym e)
