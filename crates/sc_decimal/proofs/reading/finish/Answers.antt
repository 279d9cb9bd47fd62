use Rattle.std.proofs.Common.{sym, subst}
use Rattle.sc_decimal.specs.declared.form.Form.{Form}
use Rattle.sc_decimal.specs.Digits.{ended_in}
use Rattle.sc_decimal.specs.Value.{AnswersSeen}
use Rattle.sc_decimal.proofs.reading.finish.Goals as goal

pub returns-in-Whole : goal.returns-in-Whole
returns-in-Whole c = λ seen n k small. subst (λ (f : Form). AnswersSeen (ended_in f seen) c.value.result) (sym c.in-Whole.is) (c.value.ensures seen n k small)

pub returns-in-Fraction : goal.returns-in-Fraction
returns-in-Fraction c = λ seen n k small. subst (λ (f : Form). AnswersSeen (ended_in f seen) c.value-in-Fraction.result) (sym c.in-Fraction.is) (c.value-in-Fraction.ensures seen n k small)

pub returns-in-Power : goal.returns-in-Power
returns-in-Power c = λ seen n k small. subst (λ (f : Form). AnswersSeen (ended_in f seen) c.value-in-Power.result) (sym c.in-Power.is) (c.value-in-Power.ensures seen n k small)
