use Rattle.std.proofs.Common.{ap, ◌∙◌}
use Rattle.sc_cqlvalue.specs.declared.state.State.{State}
use Rattle.sc_cqlvalue.specs.Values as values
use Rattle.sc_cqlread.specs.Reading.{eats}
use Rattle.sc_cqlread.proofs.reading.Reading.eat.Goals as goal

pub returns : goal.returns
unfolding eats
returns c = λ r h.
    let drawing = c.read.ensures r.drawing h.drawing_is in
    let wide = c.wide_at.ensures c.args.text.now r.drawing drawing in
    record {
      values_are = c.eat.ensures ∙ ap (λ (s : State). values.eats c.args.token s) h.values_are;
      drawing_is = drawing;
      word_is = cc (c.or-self-2.ensures, h.word_is);
      wide_is = cc (c.or-self.ensures, h.wide_is, wide);
    }
