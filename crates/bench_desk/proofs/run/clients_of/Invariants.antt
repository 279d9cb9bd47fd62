use Rattle.std.proofs.Common.{◌≡◌}
use Rattle.std.specs.List.{All}
use Rattle.std.specs.Vec.Iter.{into_iter_items}
use Rattle.sc_turn.specs.Passes.{card_desk, desk_id}
use Rattle.sc_notice.specs.Cards.{queue_of}
use Rattle.bench_desk.proofs.run.clients_of.Given as goal

abbrev pub invariant-loop-bytes : goal.invariant-loop-bytes
invariant-loop-bytes l =
    record {
      cards : All (λ card. card_desk card ≡ desk_id l.desk) (into_iter_items l.cards);
      notices : All (λ card. card.of ≡ queue_of l.notices) (into_iter_items l.notice_cards);
    }
