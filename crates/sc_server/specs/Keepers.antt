-- Workers of listeners over a kept catalogue: how they begin, what they do, and what they leave.
use Rattle.std.specs.Prelude.{◌≡◌, ℕ, ◌+◌, ◌<◌, Bool, List, length, map, slice_index_or}
use Rattle.std.specs.declared.option.Option.{Option}
use Rattle.std.specs.List.{list_any}
use Rattle.sc_turn.specs.{TableId}
use Rattle.sc_turn.specs.History.{Closes}
use Rattle.sc_turn.specs.declared.booked.Booked.{Ghosts}
use Rattle.sc_turn.specs.declared.pass.Card.{Card}
use Rattle.sc_load.specs.declared.load.Load.{Load}
use Rattle.sc_catalog.specs.declared.entry.Entry.{Entry}
use Rattle.sc_catalog.specs.Entries.{by}
use Rattle.sc_visit.specs.Visits.{Visitor}
use Rattle.sc_session.specs.Service.{Service}
use Rattle.sc_server.specs.Listening.{IsListened}
use Rattle.sc_server.specs.Seats.{joiner, IsCardFor}
use Rattle.sc_server.specs.Workers.{seen_by}
use Rattle.sc_server.specs.declared.keeper.Keeper.{Keeper}

module _ {N D : Type 0} where
  -- each listener has a worker, in order, with a pass that has taken no turn; they are numbered from 1
  pub record AreEmployed (desk : TableId) (begun : List Entry) (nets : List N) (keepers : List (Keeper N D)) : Type 0 where
    pub nets_are : map (λ w. w.net) keepers ≡ nets
    pub passes : (k : ℕ) (w : Keeper N D) → k < length keepers → (slice_index_or keepers k w).pass ≡ joiner desk begun (k + 1)

  -- the cards and the listeners of workers, in order, and whether a listener failed
  pub record AreDismissed {V : Type 0} {g : Ghosts V Entry} (keepers : List (Keeper N D)) (cards : List (Card V Entry g)) (nets : List N) (failed : Bool) : Type 0 where
    pub many : length cards ≡ length keepers
    pub each : (k : ℕ) (w : Keeper N D) (c : Card V Entry g) → k < length keepers → IsCardFor (slice_index_or keepers k w).pass (slice_index_or cards k c)
    pub nets_are : nets ≡ map (λ w. w.net) keepers
    pub failed_is : failed ≡ list_any (λ w. w.failed) keepers

module _ {In Out N J : Type 0} (left : In → Option (List ℕ)) (ended : In → Bool) (faults : In → ℕ) (written : Out → Option (List ℕ)) (write_faults : Out → ℕ) (service : Service Entry Load J) (net_left net_back : N → Option (List (In × Out))) (net_faults : N → ℕ) where
  -- the worker served the connections of its listener
  abbrev pub HasKept : {D : Type 0} → ℕ → Keeper N D → Keeper N D → Type 0
  HasKept most old new = IsListened left ended faults written write_faults service net_left net_back net_faults most new.failed old.net new.net old.pass new.pass

  -- each did
  pub record HaveKept {D : Type 0} (most : ℕ) (old new : List (Keeper N D)) : Type 0 where
    pub count : length new ≡ length old
    pub each : (k : ℕ) (w : Keeper N D) → k < length old → HasKept most (slice_index_or old k w) (slice_index_or new k w)

  -- each did, and this is what they left
  pub record AreLeft {D V : Type 0} {g : Ghosts V Entry} (most : ℕ) (begun : List (Keeper N D)) (cards : List (Card V Entry g)) (nets : List N) (failed : Bool) : Type 0 where
    pub ended_as : List (Keeper N D)
    pub kept : HaveKept most begun ended_as
    pub dismissed : AreDismissed ended_as cards nets failed

  -- The listeners were served, each by a worker of its own with the number of its place from 1, and these are the ends of their passes. Each pass knew the history
  -- that there was at the start, and has seen a beginning of the one history, in which all entries of its number that are past the start are; there are no other
  -- entries past the start.
  pub record IsKeptServed (most : ℕ) (begun : List Entry) (nets back : List N) (failed : Bool) (history : List Entry) : Type 0 where
    pub desk : TableId
    pub ends : List (Visitor Entry)
    pub flags : List Bool
    pub many : (length back ≡ length nets) × (length ends ≡ length nets) × (length flags ≡ length nets)
    pub each : (k : ℕ) (n : N) (v : Visitor Entry) (f : Bool) → k < length nets →
        IsListened left ended faults written write_faults service net_left net_back net_faults most (slice_index_or flags k f) (slice_index_or nets k n) (slice_index_or back k n) (joiner desk begun (k + 1)) (slice_index_or ends k v)
    pub failed_is : failed ≡ list_any (λ f. f) flags
    pub closes : Closes by begun (map seen_by ends) history
