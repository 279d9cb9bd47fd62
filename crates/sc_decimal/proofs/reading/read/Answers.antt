use Rattle.std.proofs.Common.{◌≡◌, ◌+◌, ◌<◌, ◌^◌, get_or, Some, None, Err, refl, sym, subst, ◌∙◌, arith}
use Rattle.sc_decimal.specs.declared.form.Form.{Form}
use Rattle.sc_decimal.specs.declared.number.NumFault.TheVariants.{NotANumber}
use Rattle.sc_decimal.specs.Digits.{seen_in, seen_step, nothing_seen, ended_in}
use Rattle.sc_decimal.specs.Stands.{KeepsNext}
use Rattle.sc_decimal.specs.Value.{AnswersSeen}
use Rattle.sc_decimal.proofs.Runs.{seen_on, seen_stops, seen_ends, same_step, none_next, some_next, at_end}
use Rattle.sc_decimal.proofs.reading.read.Goals as goal

pub loop-at-init : goal.loop-at-init
loop-at-init c = (
  nothing_seen,
  refl,
  record {
    form_is = refl;
    neg_is = refl;
    front = record { m_is = refl; zeros_is = refl; few = omega arith; trimmed = λ h. refl };
    places_is = refl;
    below_is = refl;
    power = refl;
    few_zeros = omega arith;
    few_places = omega arith;
  },
)

pub returns-in-None : goal.returns-in-None
returns-in-None c =
    let s = c.loop-at.invariant.0 in let k = c.loop-at.invariant.2 in let b = get_or c.args.text.now c.loop-at.at 0 in
    let h : KeepsNext None (seen_in c.loop-at.scan.form s b) (c.loop-at.at + 1) = c.in-None.ensures s c.loop-at.at k in
    let e : seen_step s b ≡ None = sym (same_step c.loop-at.scan s b k.form_is) ∙ none_next _ (c.loop-at.at + 1) h in
    at_end c.args.text.now None (Err NotANumber) (sym c.loop-at.invariant.1 ∙ seen_stops c.args.text.now c.loop-at.at s c.loop-at-test.true e) refl

pub loop-at-preserved : goal.loop-at-preserved
loop-at-preserved c =
    let s = c.loop-at.invariant.0 in let k = c.loop-at.invariant.2 in let b = get_or c.args.text.now c.loop-at.at 0 in
    let h : KeepsNext (Some c.in-Some.next) (seen_in c.loop-at.scan.form s b) (c.loop-at.at + 1) = c.in-Some.ensures s c.loop-at.at k in
    let t = some_next c.in-Some.next (seen_in c.loop-at.scan.form s b) (c.loop-at.at + 1) h in
    let e : seen_step s b ≡ Some t.0 = sym (same_step c.loop-at.scan s b k.form_is) ∙ t.1 in
    (t.0, sym (seen_on c.args.text.now c.loop-at.at s t.0 c.loop-at-test.true e) ∙ c.loop-at.invariant.1, t.2)

pub returns : goal.returns
returns c =
    let s = c.loop-at.invariant.0 in let k = c.loop-at.invariant.2 in
    let small : c.loop-at.at < 2 ^ 64 = omega arith in
    let h : AnswersSeen (ended_in c.loop-at.scan.form s) c.finish.result = c.finish.ensures s c.loop-at.at k small in
    at_end c.args.text.now (Some s) c.finish.result (sym c.loop-at.invariant.1 ∙ seen_ends c.args.text.now c.loop-at.at s c.loop-at-test.false)
    (subst (λ (f : Form). AnswersSeen (ended_in f s) c.finish.result) k.form_is h)
