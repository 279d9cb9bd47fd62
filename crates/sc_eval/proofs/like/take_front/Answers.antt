use Rattle.std.proofs.Common.{rules, sym, ◌∙◌, subst}
use Rattle.std.specs.Prelude.{chars}
use Rattle.sc_eval.specs.Like.{elements}
use Rattle.sc_eval.specs.Ahead.{Leads}
use Rattle.sc_eval.proofs.Places.{text_ends, part_ahead, part_keeps, front_on}
use Rattle.sc_eval.proofs.like.take_front.Goals as goal

pub returns-in_default-first_char-clause-ahead : goal.returns-in_default-first_char-clause-ahead
returns-in_default-first_char-clause-ahead c =
    text_ends _ _ _ _ c.in-Some.element _ c.loop-element.invariant.leads c.in-Some.ensures.0 c.in_default-first_char.ensures (sym c.is_run.ensures ∙ c.if-is_run.false)

pub loop-element-preserved : goal.loop-element-preserved
loop-element-preserved c =
    let not = sym c.is_run.ensures ∙ c.if-is_run.false in
    let on = part_ahead _ _ _ _ c.in-Some.element _ _ c.in-Some-first_char.c c.loop-element.invariant.leads c.in-Some.ensures.0 c.in-Some-first_char.ensures.0 not in
    record {
      pattern_is_text = search rules;
      text_is_text = search rules;
      part_is_text = search rules;
      place_is_text = search rules;
      front_is = front_on _ _ c.in-Some.element _ c.in-Some-first_char.c _ c.in-Some.ensures.0 c.in-Some-first_char.ensures.0 not (sym c.suits.ensures ∙ c.if-not-suits.false) ∙ c.loop-element.invariant.front_is;
      no_longer = search rules;
      leads = on;
      part_leads = subst (λ p. Leads (elements (chars c.args.pattern.now)) (chars c.args.text.now) (elements (chars p.pattern.now)) (chars p.text.now)) (sym c.part_behind-part.ensures)
          (part_keeps (λ p. Leads (elements (chars c.args.pattern.now)) (chars c.args.text.now) (elements (chars p.pattern.now)) (chars p.text.now)) c.in-Some.element _ _ c.loop-element.invariant.part_leads on);
    }
