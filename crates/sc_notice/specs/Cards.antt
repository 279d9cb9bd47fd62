-- What contracts see of the fields of a queue of notices and of its cards.
use Rattle.std.specs.Prelude.{◌≡◌, ℕ, ◌+◌, ◌<◌, List, [], ◌++◌}
use Rattle.std.specs.List.{sum_by}
use Rattle.std.specs.declared.snapshot.Snapshot.{Snapshot}
use Rattle.atomic_table.specs.declared.shared.Seat.{Seat}
use Rattle.crossbeam_queue.specs.Passes.{Pass, view, ruled_capacity}
use Rattle.sc_notice.specs.declared.notice.Notice.{Notice}
use Rattle.sc_notice.specs.declared.notice.Call.{Call}
use Rattle.sc_notice.specs.declared.protocol.Hand.{Hand}
use Rattle.sc_notice.specs.declared.notices.Notices.{Notices}
use Rattle.sc_notice.specs.Balance.{hand}
use Rattle.sc_notice.specs.Written.{record_id}
use Rattle.sc_notice.specs.Callers.{Queue, Caller, all_calls, told_in, heard_in}

-- which queue it is
abbrev pub queue_of : Notices → Queue
queue_of notices = record { queue = notices.queue.table.shared.table_id; calls = record_id notices.record; room = ruled_capacity notices.queue }

abbrev pub caller_of : Pass Notice Hand → Seat (Snapshot Notice) (List Call) → ℕ → Caller
caller_of seat pen room = record { of = record { queue = seat.table_id; calls = pen.table_id; room = room }; shares = (view seat).shares; calls = pen.me.0 }

-- what every card keeps: it is in no step, has a share, and the queue's rule knows what its calls told and heard
pub record IsCalling (seat : Pass Notice Hand) (pen : Seat (Snapshot Notice) (List Call)) : Type 0 where
  pub seat_is_free : seat.me.1 ≡ []
  pub pen_is_free : pen.me.1 ≡ []
  pub some : 0 < (view seat).shares
  pub told : (view seat).told ≡ told_in pen.me.0
  pub heard : (view seat).heard ≡ heard_in pen.me.0

-- what a seat knows that has taken in those of the cards
abbrev pub with_cards : Hand → List Caller → Hand
with_cards v cards = hand (v.shares + sum_by (λ card. card.shares) cards) (v.told ++ told_in (all_calls cards)) (v.heard ++ heard_in (all_calls cards))
