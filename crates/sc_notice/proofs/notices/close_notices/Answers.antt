use Rattle.std.proofs.Common.{◌≡◌, sym, ap, ◌∙◌}
use Rattle.sc_notice.specs.declared.protocol.Hand.{Hand}
use Rattle.sc_notice.specs.Callers.{Caller}
use Rattle.sc_notice.specs.Cards.{queue_of, with_cards}
use Rattle.sc_notice.proofs.Balance.{learns}
use Rattle.sc_notice.proofs.Weights.{all_front, closed}
use Rattle.sc_notice.proofs.notices.close_notices.Goals as goal

pub take_back-seat-requires-clause-of : goal.take_back-seat-requires-clause-of
take_back-seat-requires-clause-of g c =
    all_front (λ (x : Caller). x.of ≡ queue_of c.args.notices) c.args.cards c.pop.new.self.items c.in-Some.card (sym c.into_vec-cards.ensures ∙ c.in-Some.ensures.items) c.requires.each

pub len_as-requires-clause-rule : goal.len_as-requires-clause-rule
len_as-requires-clause-rule g c = learns _ _

pub returns : goal.returns
returns g c =
    closed c.args.cards c.pop.new.self.items c.in-Some.card c.len_as.result _ (sym c.into_vec-cards.ensures ∙ c.in-Some.ensures.items) c.requires.all
    (c.take_back-seat.ensures.view ∙ ap (λ (v : Hand). with_cards v c.pop.new.self.items) c.into_seat.ensures.view) c.len_as.ensures.rule.1
