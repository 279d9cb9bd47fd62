use Rattle.std.proofs.Common.{◌∙◌, ap, sym, length-append, ◌∷◌, [], ◌+◌}
use Rattle.std.specs.Vec.Iter.{into_iter_items}
use Rattle.sc_turn.specs.Passes.{desk_id, desk_passes}
use Rattle.bench_turn.proofs.Lists.{bound_step, split_step}
use Rattle.bench_turn.proofs.run.bind_all.Goals as goal

pub loop-card-preserved : goal.loop-card-preserved
loop-card-preserved c =
    let inv = c.loop-card.invariant in
    let step = c.in-Some.ensures.steps.0 in
    record {
      split = split_step c.args.cards.items c.loop-card.yielded _ (into_iter_items c.loop-card.card-iterator) c.in-Some.card inv.split step;
      bound = bound_step (desk_id c.args.desk.now) (desk_passes c.args.desk.now) c.args.cards.items c.loop-card.yielded _ (into_iter_items c.loop-card.card-iterator) c.in-Some.card c.loop-card.workers.items _ c.new.result c.requires.cards inv.split step inv.bound
          c.push_reserved.ensures.items (c.new.ensures.0 ∙ c.bind.ensures.desk) (c.new.ensures.1 ∙ c.bind.ensures.number);
      count = c.push_reserved.ensures.len ∙ ap (λ n. n + 1) inv.count ∙ sym (length-append c.loop-card.yielded (c.in-Some.card ∷ []));
      room = c.push_reserved.ensures.capacity ∙ inv.room;
    }
