use Rattle.std.proofs.Common.{◌∙◌, ◌++◌, ◌∷◌, [], ap, ap₂, append_assoc, arith, length-append, map, sym}
use Rattle.std.specs.Vec.Iter.{into_iter_items}
use Rattle.sc_server.specs.declared.worker.Worker.{Worker}
use Rattle.sc_server.proofs.Lists.{count_step, either_first, either_second, map_more, split_step}
use Rattle.sc_server.proofs.Workers.{back_step}
use Rattle.sc_server.proofs.staff.dismiss.Goals as goal

pub loop-worker-preserved : goal.loop-worker-preserved
loop-worker-preserved g c =
    let now = c.loop-worker in
    let inv = now.invariant in
    let worker = c.in-Some.worker in
    let parts = c.into_parts-seat in
    let seats = c.push_reserved in
    let nets = c.push_reserved-in-loop-worker in
    record {
      split = split_step c.args.staff.serving.workers.items now.yielded _ (into_iter_items now.worker-iterator) worker inv.split c.in-Some.ensures.steps.0;
      seats_are = seats.ensures.items ∙ ap₂ (λ l x. l ++ x ∷ []) inv.seats_are parts.ensures.seat_is ∙ sym (map_more (λ (w : Worker _). w.seat) now.yielded worker);
      back = back_step now.yielded worker now.nets.items _ parts.result.1 now.failed parts.result.2 parts.result.2 inv.back nets.ensures.items (either_second now.failed parts.result.2 c.if-failed.false) parts.ensures.net_is parts.ensures.failed_is;
      count = count_step now.yielded worker _ _ seats.ensures.len inv.count;
      nets_count = count_step now.yielded worker _ _ nets.ensures.len inv.nets_count;
      room = seats.ensures.capacity ∙ inv.room;
      nets_room = nets.ensures.capacity ∙ inv.nets_room;
    }

pub loop-worker-preserved-then-failed : goal.loop-worker-preserved-then-failed
loop-worker-preserved-then-failed g c =
    let now = c.loop-worker in
    let inv = now.invariant in
    let worker = c.in-Some.worker in
    let parts = c.into_parts-seat in
    let seats = c.push_reserved in
    let nets = c.push_reserved-in-loop-worker in
    record {
      split = split_step c.args.staff.serving.workers.items now.yielded _ (into_iter_items now.worker-iterator) worker inv.split c.in-Some.ensures.steps.0;
      seats_are = seats.ensures.items ∙ ap₂ (λ l x. l ++ x ∷ []) inv.seats_are parts.ensures.seat_is ∙ sym (map_more (λ (w : Worker _). w.seat) now.yielded worker);
      back = back_step now.yielded worker now.nets.items _ parts.result.1 now.failed now.failed parts.result.2 inv.back nets.ensures.items (either_first now.failed parts.result.2 c.if-failed.true) parts.ensures.net_is parts.ensures.failed_is;
      count = count_step now.yielded worker _ _ seats.ensures.len inv.count;
      nets_count = count_step now.yielded worker _ _ nets.ensures.len inv.nets_count;
      room = seats.ensures.capacity ∙ inv.room;
      nets_room = nets.ensures.capacity ∙ inv.nets_room;
    }

pub loop-seat-preserved : goal.loop-seat-preserved
loop-seat-preserved g c =
    let now = c.loop-seat in
    let inv = now.invariant in
    let seat = c.in-Some-seat.seat in
    let front = map (λ (w : Worker _). w.seat) c.args.staff.serving.workers.items in
    record {
      split = split_step c.args.staff.tighteners.items now.yielded _ (into_iter_items now.seat-iterator) seat inv.split c.in-Some-seat.ensures.steps.0;
      seats_are = c.push_reserved-in-loop-seat.ensures.items ∙ ap (λ l. l ++ seat ∷ []) inv.seats_are ∙ append_assoc front now.yielded (seat ∷ []);
      back = inv.back;
      count = omega (arith, c.push_reserved-in-loop-seat.ensures.len, inv.count, length-append now.yielded (seat ∷ []));
      room = c.push_reserved-in-loop-seat.ensures.capacity ∙ inv.room;
    }
