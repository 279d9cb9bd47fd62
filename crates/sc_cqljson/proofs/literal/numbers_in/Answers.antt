use Rattle.std.proofs.Common.{Some, sym, ap, ◌∙◌}
use Rattle.std.specs.Option.{option_and_then}
use Rattle.sc_geom.specs.Drawn.{all_read}
use Rattle.sc_geom.proofs.Lists.{all_read_stops}
use Rattle.sc_geom.proofs.Steps.{read_more}
use Rattle.sc_json.specs.Views.{number_of}
use Rattle.sc_cqljson.specs.Drawn.{numbers_in}
use Rattle.sc_cqljson.proofs.literal.numbers_in.Goals as goal

pub returns-in-None : goal.returns-in-None
unfolding numbers_in
returns-in-None c =
    sym (ap (option_and_then (all_read number_of)) (sym c.in-Some.ensures)
    ∙ all_read_stops number_of c.in-Some.elements.now c.loop-element.element-index c.element-item.result c.loop-element-test.true c.element-item.is (sym c.in-None.ensures))

pub loop-element-preserved : goal.loop-element-preserved
loop-element-preserved c =
    read_more number_of c.in-Some.elements.now c.loop-element.element-index c.element-item.result c.loop-element.numbers.items c.in-Some-as_number.number.now c.loop-element-test.true c.element-item.is
    c.loop-element.invariant (sym c.in-Some-as_number.ensures)
    ∙ ap Some (sym c.in_ok-push-in-Some-as_number.ensures.items)
