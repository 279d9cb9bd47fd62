use Rattle.std.proofs.Common.{◌≡◌, ◌+◌, ◌≤◌, [], All, length, vec_len, vec_capacity}
use Rattle.std.specs.List.{sum_by}
use Rattle.sc_notice.specs.Cards.{queue_of}
use Rattle.sc_notice.proofs.notices.deal.Given as goal

abbrev pub invariant-loop : goal.invariant-loop
invariant-loop l =
    record {
      of_is : l.first.of ≡ queue_of l.notices;
      calls_are : l.first.calls ≡ [];
      shares_are : l.first.shares + l.counter ≡ 1_024;
      few : l.counter ≤ l.fn.more;
      count : length l.cards.items ≡ l.counter;
      len_is : vec_len l.cards ≡ l.counter;
      each : All (λ card. (card.of ≡ queue_of l.notices) × (card.calls ≡ [])) l.cards.items;
      sum : sum_by (λ card. card.shares) l.cards.items ≡ l.counter;
      room : vec_capacity l.cards ≡ vec_capacity l.fn.cards;
    }
