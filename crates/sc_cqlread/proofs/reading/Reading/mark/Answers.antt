use Rattle.std.proofs.Common.{◌≡◌, ap, ◌∙◌}
use Rattle.sc_cqlvalue.specs.declared.state.State.{State}
use Rattle.sc_cqlvalue.specs.Values as values
use Rattle.sc_cqlread.specs.Reading.{does}
use Rattle.sc_cqlread.proofs.Answered.{does_other, on_ok}
use Rattle.sc_cqlread.proofs.reading.Reading.mark.Goals as goal

pub returns-in-Outermost : goal.returns-in-Outermost
unfolding does
returns-in-Outermost c = λ r h. rw c.in-Outermost.is (c.begin_geometry.ensures r h)

pub returns-in-Geometry : goal.returns-in-Geometry
unfolding does
returns-in-Geometry c = λ r h. rw c.in-Geometry.is (c.end_geometry.ensures r h)

pub returns-in_ok-draw-in_default : goal.returns-in_ok-draw-in_default
returns-in_ok-draw-in_default c = λ r h.
    rw (does_other c.args.text.now c.args.mark r c.in_default.not-Outermost c.in_default.not-Geometry)
    (on_ok c.mark.result (λ (e : c.mark.new.self ≡ values.does c.args.text.now c.args.mark c.args.self.now.values). record {
      values_are = e ∙ ap (λ (s : State). values.does c.args.text.now c.args.mark s) h.values_are;
      drawing_is = c.in_ok-draw-in_default.ensures r.drawing h.drawing_is;
      word_is = h.word_is;
      wide_is = h.wide_is;
    }) c.mark.ensures.ok)
