-- Workers of listeners, and the tighteners beside them: how they begin, what they do, and what they leave.
use Rattle.std.specs.Prelude.{◌≡◌, ℕ, ◌+◌, ◌-◌, ◌^◌, ◌<◌, ◌≤◌, Bool, true, List, [], ◌∷◌, ◌++◌, length, map, replicate, slice_index_or, vec_len, vec_capacity, All}
use Rattle.std.specs.declared.option.Option.{Option}
use Rattle.std.specs.List.{list_any}
use Rattle.sc_turn.specs.{TableId}
use Rattle.sc_turn.specs.History.{Closes}
use Rattle.sc_turn.specs.declared.booked.Booked.{Ghosts}
use Rattle.sc_turn.specs.declared.pass.Card.{Card}
use Rattle.sc_load.specs.declared.load.Load.{Load}
use Rattle.sc_catalog.specs.declared.entry.Entry.{Entry}
use Rattle.sc_catalog.specs.Entries.{by}
use Rattle.sc_visit.specs.Visits.{Visitor}
use Rattle.sc_notice.specs.declared.notice.Notice.TheVariants.{Stop}
use Rattle.sc_notice.specs.Callers.{Caller, all_calls, told_in}
use Rattle.sc_notice.specs.Callers as notices
use Rattle.sc_session.specs.Service.{Service}
use Rattle.sc_serve.specs.Notices.{TellsOfLoads}
use Rattle.sc_server.specs.Listening.{IsListened}
use Rattle.sc_server.specs.Seats.{newcomer, AreTightened, IsStopping, AreCardsOf}
use Rattle.sc_server.specs.declared.seat.Seat.{Seat}
use Rattle.sc_server.specs.declared.worker.Worker.{Worker}
use Rattle.sc_server.specs.declared.staff.Serving.{Serving}
use Rattle.sc_server.specs.declared.staff.Staff.{Staff}
use Rattle.sc_server.specs.declared.staff.Rooms.{Rooms}

-- the number of a pass, and what it has seen
abbrev pub seen_by : Visitor Entry → ℕ × List Entry
seen_by visitor = (visitor.number, visitor.seen)

-- for so many turns a seat that is told to stop goes on at most
abbrev pub turns_at_most : ℕ
turns_at_most = 2 ^ 64 - 1

-- so many notices the queue has room for, and so many are heard before the tighteners are told to stop
abbrev pub room : ℕ
room = 1_024

module _ {N : Type 0} where
  -- the seat of a worker, its listener, and whether that failed
  pub record AreParts (worker : Worker N) (seat : Seat) (net : N) (failed : Bool) : Type 0 where
    pub seat_is : seat ≡ worker.seat
    pub net_is : net ≡ worker.net
    pub failed_is : failed ≡ worker.failed

  -- the listeners of all workers, in order, and whether a listener failed
  pub record AreBack (workers : List (Worker N)) (nets : List N) (failed : Bool) : Type 0 where
    pub nets_are : nets ≡ map (λ w. w.net) workers
    pub failed_is : failed ≡ list_any (λ w. w.failed) workers

  -- the seats of all, those of the workers first, and the stopper's last
  abbrev pub seats_of : Staff N → List Seat
  seats_of staff = map (λ w. w.seat) staff.serving.workers.items ++ (staff.tighteners.items ++ staff.serving.stopper ∷ [])

  -- each listener has a worker, in order, and there are so many tighteners; together they have these seats
  pub record IsStaffOf (nets : List N) (seats : List Seat) (count : ℕ) (staff : Staff N) : Type 0 where
    pub nets_are : map (λ w. w.net) staff.serving.workers.items ≡ nets
    pub seats_are : seats_of staff ≡ seats
    pub tighteners_are : length staff.tighteners.items ≡ count

  -- there is memory for so many listeners and tighteners, and for what they leave
  pub record HaveRoom (listeners count : ℕ) (rooms : Rooms N) : Type 0 where
    pub workers : (vec_len rooms.workers ≡ 0) × (listeners ≤ vec_capacity rooms.workers)
    pub tighteners : (vec_len rooms.tighteners ≡ 0) × (count ≤ vec_capacity rooms.tighteners)
    pub nets : (vec_len rooms.nets ≡ 0) × (listeners ≤ vec_capacity rooms.nets)
    pub seats : (vec_len rooms.seats ≡ 0) × (listeners + count + 1 ≤ vec_capacity rooms.seats)
    pub cards : (vec_len rooms.cards ≡ 0) × (listeners + count + 1 ≤ vec_capacity rooms.cards)
    pub notice_cards : (vec_len rooms.notice_cards ≡ 0) × (listeners + count + 1 ≤ vec_capacity rooms.notice_cards)

  -- all have ended
  abbrev pub HaveEnded : List (Worker N) → Type 0
  HaveEnded workers = All (λ w. w.ended ≡ true) workers

-- the notices of listeners' workers, whose passes ended so: of each pass's loads was told, to none but the tighteners, which then were told to stop. So many of
-- all these notices were not heard
pub record AreNoticed (desk : TableId) (count : ℕ) (ends : List (Visitor Entry)) (unheard : ℕ) : Type 0 where
  pub before : List Caller
  pub after : List Caller
  pub fresh : All (λ caller. caller.calls ≡ []) before
  pub many : (length before ≡ length ends) × (length after ≡ length ends)
  pub each : (k : ℕ) (v : Visitor Entry) (a b : Caller) → k < length ends →
      TellsOfLoads (newcomer desk (k + 1)) (slice_index_or ends k v) (slice_index_or before k a) (slice_index_or after k b)
  pub begun : List Seat
  pub tighteners : List Seat
  pub tightened : AreTightened turns_at_most begun tighteners
  pub tighteners_are : length tighteners ≡ count
  pub stopper : Seat
  pub stops : told_in (all_calls (map (λ s. s.notices) (tighteners ++ stopper ∷ []))) ≡ replicate count Stop
  pub closes : notices.Closes (after ++ map (λ s. s.notices) (tighteners ++ stopper ∷ [])) unheard

module _ {In Out N J : Type 0} (left : In → Option (List ℕ)) (ended : In → Bool) (faults : In → ℕ) (written : Out → Option (List ℕ)) (write_faults : Out → ℕ) (service : Service Entry Load J) (net_left net_back : N → Option (List (In × Out))) (net_faults : N → ℕ) where
  -- the worker served the connections of its listener, told of their loads, and has ended
  pub record IsWorked (most : ℕ) (old new : Worker N) : Type 0 where
    pub listened : IsListened left ended faults written write_faults service net_left net_back net_faults most new.failed old.net new.net old.seat.pass new.seat.pass
    pub told : TellsOfLoads old.seat.pass new.seat.pass old.seat.notices new.seat.notices
    pub has_ended : new.ended ≡ true

  -- each did
  pub record AreWorked (most : ℕ) (old new : List (Worker N)) : Type 0 where
    pub count : length new ≡ length old
    pub each : (k : ℕ) (w : Worker N) → k < length old → IsWorked most (slice_index_or old k w) (slice_index_or new k w)

  -- the listeners were served, and then so many tighteners were told to stop
  pub record HasServed (most count : ℕ) (old new : Serving N) : Type 0 where
    pub worked : AreWorked most old.workers.items new.workers.items
    pub stopped : IsStopping room count old.stopper new.stopper

  -- all did what they are for
  pub record HaveWorked (most : ℕ) (old new : Staff N) : Type 0 where
    pub served : HasServed most (length old.tighteners.items) old.serving new.serving
    pub tightened : AreTightened turns_at_most old.tighteners.items new.tighteners.items

  -- those who had these seats did what they are for, and this is what they left
  pub record HasRun {V : Type 0} {g : Ghosts V Entry} (most count : ℕ) (seats : List Seat) (nets back : List N) (failed : Bool) (cards : List (Card V Entry g)) (callers : List Caller) : Type 0 where
    pub before : Staff N
    pub after : Staff N
    pub staffed : IsStaffOf nets seats count before
    pub worked : HaveWorked most before after
    pub backs : AreBack after.serving.workers.items back failed
    pub are : AreCardsOf (seats_of after) cards callers

  -- the listeners were served, each by a worker of its own with the number of its place from 1, and these are the ends of their passes: each has seen a
  -- beginning of the one history, in which all entries of its number are, and there are no other entries. Of the loads was told
  pub record IsServed (most count : ℕ) (nets back : List N) (failed : Bool) (unheard : ℕ) (history : List Entry) : Type 0 where
    pub desk : TableId
    pub ends : List (Visitor Entry)
    pub flags : List Bool
    pub many : (length back ≡ length nets) × (length ends ≡ length nets) × (length flags ≡ length nets)
    pub each : (k : ℕ) (n : N) (v : Visitor Entry) (f : Bool) → k < length nets →
        IsListened left ended faults written write_faults service net_left net_back net_faults most (slice_index_or flags k f) (slice_index_or nets k n) (slice_index_or back k n) (newcomer desk (k + 1)) (slice_index_or ends k v)
    pub failed_is : failed ≡ list_any (λ f. f) flags
    pub closes : Closes by [] (map seen_by ends) history
    pub noticed : AreNoticed desk count ends unheard
