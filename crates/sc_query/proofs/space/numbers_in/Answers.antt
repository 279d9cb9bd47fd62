use Rattle.std.proofs.Common.{Some, sym, ap, ◌∙◌}
use Rattle.sc_json.specs.Views.{number_of}
use Rattle.sc_geom.proofs.Lists.{all_read_stops}
use Rattle.sc_geom.proofs.Steps.{read_more}
use Rattle.sc_query.proofs.space.numbers_in.Goals as goal

pub returns-in-None : goal.returns-in-None
returns-in-None c = sym (all_read_stops number_of c.args.values.now c.loop-value.value-index c.value-item.result c.loop-value-test.true c.value-item.is (sym c.in-None.ensures))

pub loop-value-preserved : goal.loop-value-preserved
loop-value-preserved c =
    read_more number_of c.args.values.now c.loop-value.value-index c.value-item.result c.loop-value.numbers.items c.in-Some.number.now c.loop-value-test.true c.value-item.is c.loop-value.invariant (sym c.in-Some.ensures)
    ∙ ap Some (sym c.in_ok-push-in-Some.ensures.items)
