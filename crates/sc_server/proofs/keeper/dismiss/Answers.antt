use Rattle.std.proofs.Common.{◌∙◌}
use Rattle.std.specs.Vec.Iter.{into_iter_items}
use Rattle.sc_server.proofs.Keepers.{left_step}
use Rattle.sc_server.proofs.Lists.{count_step, either_first, either_second, split_step}
use Rattle.sc_server.proofs.keeper.dismiss.Goals as goal

pub loop-keeper-preserved : goal.loop-keeper-preserved
loop-keeper-preserved g c =
    let now = c.loop-keeper in
    let inv = now.invariant in
    let keeper = c.in-Some.keeper in
    let parts = c.into_parts-card in
    let cards = c.push_reserved in
    let nets = c.push_reserved-in-loop-keeper in
    record {
      split = split_step c.args.keepers.items now.yielded _ (into_iter_items now.keeper-iterator) keeper inv.split c.in-Some.ensures.steps.0;
      left = left_step now.yielded keeper now.cards.items _ parts.result.0 now.nets.items _ parts.result.1 now.listen_failed parts.result.2 parts.result.2 inv.left cards.ensures.items nets.ensures.items
          (either_second now.listen_failed parts.result.2 c.if-listen_failed.false) parts.ensures.card parts.ensures.net parts.ensures.failed;
      count = count_step now.yielded keeper _ _ cards.ensures.len inv.count;
      nets_count = count_step now.yielded keeper _ _ nets.ensures.len inv.nets_count;
      room = cards.ensures.capacity ∙ inv.room;
      nets_room = nets.ensures.capacity ∙ inv.nets_room;
    }

pub loop-keeper-preserved-then-listen_failed : goal.loop-keeper-preserved-then-listen_failed
loop-keeper-preserved-then-listen_failed g c =
    let now = c.loop-keeper in
    let inv = now.invariant in
    let keeper = c.in-Some.keeper in
    let parts = c.into_parts-card in
    let cards = c.push_reserved in
    let nets = c.push_reserved-in-loop-keeper in
    record {
      split = split_step c.args.keepers.items now.yielded _ (into_iter_items now.keeper-iterator) keeper inv.split c.in-Some.ensures.steps.0;
      left = left_step now.yielded keeper now.cards.items _ parts.result.0 now.nets.items _ parts.result.1 now.listen_failed now.listen_failed parts.result.2 inv.left cards.ensures.items nets.ensures.items
          (either_first now.listen_failed parts.result.2 c.if-listen_failed.true) parts.ensures.card parts.ensures.net parts.ensures.failed;
      count = count_step now.yielded keeper _ _ cards.ensures.len inv.count;
      nets_count = count_step now.yielded keeper _ _ nets.ensures.len inv.nets_count;
      room = cards.ensures.capacity ∙ inv.room;
      nets_room = nets.ensures.capacity ∙ inv.nets_room;
    }
