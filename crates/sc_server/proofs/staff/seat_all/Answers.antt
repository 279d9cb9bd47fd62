use Rattle.std.proofs.Common.{All, ◌≡◌, ◌∙◌, length, length-append, ◌++◌, ◌∷◌, [], ap, ap₂, arith, subst, map}
use Rattle.std.specs.Vec.Iter.{into_iter_items}
use Rattle.sc_turn.specs.Passes.{desk_id}
use Rattle.sc_visit.specs.Visits.{visitor_of}
use Rattle.sc_notice.specs.Callers.{Caller}
use Rattle.sc_notice.specs.Cards.{queue_of}
use Rattle.sc_server.specs.declared.seat.Seat.{Seat}
use Rattle.sc_server.proofs.Lists.{all_mid, count_step, map_more, split_step}
use Rattle.sc_server.proofs.Seats.{next_desk, numbered_step}
use Rattle.sc_server.proofs.staff.seat_all.Goals as goal

pub bind-pass-requires : goal.bind-pass-requires
bind-pass-requires c =
    next_desk (desk_id c.args.desk.now) _ c.args.cards.items c.loop-card.yielded (into_iter_items c.loop-card.card-iterator) _ c.in-Some.card c.requires.cards c.loop-card.invariant.split c.in-Some.ensures.steps.0

pub bind-hearing-requires : goal.bind-hearing-requires
bind-hearing-requires c =
    let dealt = c.loop-card.invariant.dealt in
    let caller = c.in-Some-next.notice_card in
    let rest = into_iter_items c.next-in-loop-card.new.self in
    let whole : c.args.notice_cards.items ≡ dealt.0 ++ caller ∷ rest = dealt.1 ∙ ap (λ l. dealt.0 ++ l) c.in-Some-next.ensures.items in
    all_mid (λ (x : Caller). x.of ≡ queue_of c.args.notices.now) dealt.0 rest caller (subst (λ l. All (λ (x : Caller). x.of ≡ queue_of c.args.notices.now) l) whole c.requires.notices)

pub loop-card-preserved : goal.loop-card-preserved
loop-card-preserved c =
    let now = c.loop-card in
    let inv = now.invariant in
    let dealt = inv.dealt in
    let step = c.in-Some.ensures.steps.0 in
    let card = c.in-Some.card in
    let caller = c.in-Some-next.notice_card in
    let rest = into_iter_items c.next-in-loop-card.new.self in
    let seat = c.new.result in
    record {
      split = split_step c.args.cards.items now.yielded _ (into_iter_items now.card-iterator) card inv.split step;
      dealt = (
        dealt.0 ++ caller ∷ [],
        split_step c.args.notice_cards.items dealt.0 rest (into_iter_items now.notice_cards) caller dealt.1 c.in-Some-next.ensures.items,
        count_step now.yielded card (length dealt.0) _ (length-append dealt.0 (caller ∷ [])) dealt.2,
        ap (map (λ (s : Seat). s.notices)) c.push_reserved.ensures.items ∙ map_more (λ (s : Seat). s.notices) now.seats.items seat
            ∙ ap₂ (λ l x. l ++ x ∷ []) dealt.3 (ap (λ (s : Seat). s.notices) c.new.ensures ∙ c.bind-hearing.ensures),
      );
      numbered = numbered_step (desk_id c.args.desk.now) _ c.args.cards.items now.yielded (into_iter_items now.card-iterator) _ card now.seats.items c.push_reserved.new.self.items seat (visitor_of c.bind-pass.result) _
          c.requires.cards inv.split step (omega (arith, inv.count)) inv.numbered c.push_reserved.ensures.items c.new.ensures
          c.bind-pass.ensures.desk c.bind-pass.ensures.number c.bind-pass.ensures.start c.bind-pass.ensures.seen c.bind-pass.ensures.visits;
      count = count_step now.yielded card _ _ c.push_reserved.ensures.len inv.count;
      room = c.push_reserved.ensures.capacity ∙ inv.room;
    }
