use Rattle.std.proofs.Common.{◌≡◌, ◌∙◌, length, length-append, ◌++◌, ◌∷◌, [], ap, ap₂, arith, refl, sym, map}
use Rattle.std.specs.Vec.Iter.{into_iter_items}
use Rattle.sc_server.specs.declared.worker.Worker.{Worker}
use Rattle.sc_server.proofs.Lists.{count_step, map_more, split_step}
use Rattle.sc_server.proofs.staff.employ.Goals as goal

pub loop-net-preserved : goal.loop-net-preserved
loop-net-preserved g c =
    let now = c.loop-net in
    let inv = now.invariant in
    let net = c.in-Some.net in
    let seat = c.in-Some-next.seat in
    let rest = into_iter_items c.next-in-loop-net.new.self in
    let worker = c.new.result in
    let seats : map (λ (w : Worker _). w.seat) c.push_reserved.new.self.items ≡ map (λ (w : Worker _). w.seat) now.workers.items ++ seat ∷ [] =
    ap (map (λ (w : Worker _). w.seat)) c.push_reserved.ensures.items ∙ map_more (λ (w : Worker _). w.seat) now.workers.items worker ∙ ap (λ x. map (λ (w : Worker _). w.seat) now.workers.items ++ x ∷ []) (ap (λ (w : Worker _). w.seat) c.new.ensures) in
    record {
      split = split_step c.args.nets.items now.yielded _ (into_iter_items now.net-iterator) net inv.split c.in-Some.ensures.steps.0;
      given = split_step c.args.seats.items (map (λ (w : Worker _). w.seat) now.workers.items) rest (into_iter_items now.seats) seat inv.given c.in-Some-next.ensures.items ∙ ap (λ l. l ++ rest) (sym seats);
      nets_are = ap (map (λ (w : Worker _). w.net)) c.push_reserved.ensures.items ∙ map_more (λ (w : Worker _). w.net) now.workers.items worker ∙ ap₂ (λ l x. l ++ x ∷ []) inv.nets_are (ap (λ (w : Worker _). w.net) c.new.ensures);
      left = omega (arith, inv.left, ap length c.in-Some-next.ensures.items, length-append now.yielded (net ∷ []));
      count = count_step now.yielded net _ _ c.push_reserved.ensures.len inv.count;
      room = c.push_reserved.ensures.capacity ∙ inv.room;
    }

pub loop-given-preserved : goal.loop-given-preserved
loop-given-preserved g c =
    let now = c.loop-given in
    let inv = now.invariant in
    let seat = c.in-Some-next-2.seat in
    let rest = into_iter_items c.next-in-loop-given.new.self in
    let front = map (λ (w : Worker _). w.seat) c.loop-net.workers.items in
    record {
      given = inv.given
          ∙ ap (λ l. front ++ l) (split_step (now.tighteners.items ++ into_iter_items now.seats) now.tighteners.items rest (into_iter_items now.seats) seat refl c.in-Some-next-2.ensures.items
          ∙ ap (λ l. l ++ rest) (sym c.push_reserved-in-Some-next-2.ensures.items));
      nets_are = inv.nets_are;
      left = omega (arith, inv.left, ap length c.in-Some-next-2.ensures.items);
      count = omega (arith, c.push_reserved-in-Some-next-2.ensures.len, inv.count);
      room = c.push_reserved-in-Some-next-2.ensures.capacity ∙ inv.room;
    }
