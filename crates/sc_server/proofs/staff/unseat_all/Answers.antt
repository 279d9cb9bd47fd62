use Rattle.std.proofs.Common.{◌∙◌}
use Rattle.std.specs.Vec.Iter.{into_iter_items}
use Rattle.sc_server.proofs.Lists.{count_step, split_step}
use Rattle.sc_server.proofs.Seats.{cards_step}
use Rattle.sc_server.proofs.staff.unseat_all.Goals as goal

pub loop-seat-preserved : goal.loop-seat-preserved
loop-seat-preserved c =
    let now = c.loop-seat in
    let inv = now.invariant in
    let seat = c.in-Some.seat in
    let parts = c.into_cards-card in
    let cards = c.push_reserved in
    let callers = c.push_reserved-in-loop-seat in
    record {
      split = split_step c.args.seats.items now.yielded _ (into_iter_items now.seat-iterator) seat inv.split c.in-Some.ensures.steps.0;
      back = cards_step now.yielded seat now.cards.items _ parts.result.0 now.notice_cards.items _ parts.result.1 inv.back cards.ensures.items callers.ensures.items parts.ensures.card parts.ensures.notices;
      count = count_step now.yielded seat _ _ cards.ensures.len inv.count;
      notices_count = count_step now.yielded seat _ _ callers.ensures.len inv.notices_count;
      room = cards.ensures.capacity ∙ inv.room;
      notices_room = callers.ensures.capacity ∙ inv.notices_room;
    }
