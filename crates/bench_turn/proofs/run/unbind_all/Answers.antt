use Rattle.std.proofs.Common.{◌∙◌, ap, sym, length-append, ◌∷◌, [], ◌+◌}
use Rattle.std.specs.Vec.Iter.{into_iter_items}
use Rattle.bench_turn.proofs.Lists.{back_step, split_step}
use Rattle.bench_turn.proofs.run.unbind_all.Goals as goal

pub loop-worker-preserved : goal.loop-worker-preserved
loop-worker-preserved c =
    let inv = c.loop-worker.invariant in
    let step = c.in-Some.ensures.steps.0 in
    record {
      split = split_step c.args.workers.items c.loop-worker.yielded _ (into_iter_items c.loop-worker.worker-iterator) c.in-Some.worker inv.split step;
      back = back_step c.loop-worker.yielded c.in-Some.worker c.loop-worker.cards.items _ c.into_card.result inv.back c.push_reserved.ensures.items c.into_card.ensures;
      count = c.push_reserved.ensures.len ∙ ap (λ n. n + 1) inv.count ∙ sym (length-append c.loop-worker.yielded (c.in-Some.worker ∷ []));
      room = c.push_reserved.ensures.capacity ∙ inv.room;
    }
