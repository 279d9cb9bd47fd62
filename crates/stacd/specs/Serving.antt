-- What a run of the server does.
use Rattle.std.specs.Prelude.{◌≡◌, ℕ, ◌<◌, ◌^◌, ◌-◌, min, Bool, true, false, List, [], ◌∷◌, ◌++◌, length, slice_index_or, codes, decimal}
use Rattle.std.specs.declared.option.Option.{Option}
use Rattle.std.specs.Io.KnownBytes.{Appends, Keeps}
use Rattle.sc_outside.specs.Causes.{Rose}
use Rattle.sc_outside.specs.Outside.{AppendsFront}
use Rattle.sc_history.specs.Views.{Snap}
use Rattle.sc_shelf.specs.Kept.{all_items}
use Rattle.sc_catalog.specs.declared.entry.Entry.{Entry}
use Rattle.sc_catalog.specs.Entries.{IsSnapshotOf}
use Rattle.sc_serve.specs.Service.{api}
use Rattle.sc_server.specs.Workers.{IsServed}
use Rattle.stacd.specs.declared.serving.ServeEnd.{ServeEnd}
use Rattle.stacd.specs.declared.serving.ServeEnd.TheVariants.{Done, ListenFault, WriteFault, OutOfMemory}

unfoldable pub base_start : List ℕ
base_start = codes "http://127.0.0.1:"

-- the address of the server at a port
abbrev pub base_of : ℕ → List ℕ
base_of port = base_start ++ decimal port

unfoldable pub loads_start : List ℕ
loads_start = codes "loads "

unfoldable pub items_middle : List ℕ
items_middle = codes " items "

-- how many loads the history has, and how many items
abbrev pub line_of : ℕ → ℕ → List ℕ
line_of loads items = loads_start ++ (decimal loads ++ (items_middle ++ (decimal items ++ 10 ∷ [])))

-- the line of a history
pub record IsLineOf (history : List Entry) (line : List ℕ) : Type 0 where
  pub snap : Snap
  pub is : IsSnapshotOf history snap
  pub line_is : line ≡ line_of (length history) (min (length (all_items snap.parts)) (2 ^ 64 - 1))

-- a listener's count of faults rose
pub record HasFailed {N : Type 0} (net_faults : N → ℕ) (nets back : List N) : Type 0 where
  pub place : ℕ
  pub within : place < length nets
  pub rose : (n : N) → Rose (net_faults (slice_index_or nets place n)) (net_faults (slice_index_or back place n))

module _ {In Out N : Type 0} (left : In → Option (List ℕ)) (ended : In → Bool) (faults : In → ℕ) (written : Out → Option (List ℕ)) (write_faults : Out → ℕ) (net_left net_back : N → Option (List (In × Out))) (net_faults : N → ℕ) where
  -- the listeners were served over one history, beside so many tighteners; so many notices of parts were left unheard
  pub record HasServed (base : List ℕ) (most count : ℕ) (nets back : List N) (failed : Bool) (history : List Entry) : Type 0 where
    pub unheard : ℕ
    pub served : IsServed left ended faults written write_faults (api base) net_left net_back net_faults most count nets back failed unheard history

  -- how the run ends, and what it leaves of the output
  abbrev pub Serves : ServeEnd → List ℕ → ℕ → ℕ → List N → List N → Option (List ℕ) → Option (List ℕ) → Type 0
  Serves Done base most count nets back old new = (history : List Entry) × (line : List ℕ) × HasServed base most count nets back false history × IsLineOf history line × Appends old new line
  Serves ListenFault base most count nets back old new = (history : List Entry) × (line : List ℕ) × HasServed base most count nets back true history × IsLineOf history line × Appends old new line
  Serves WriteFault base most count nets back old new =
      (history : List Entry) × (line : List ℕ) × (failed : Bool) × HasServed base most count nets back failed history × IsLineOf history line × AppendsFront old new line
  Serves OutOfMemory base most count nets back old new = Keeps old new

abbrev pub status_of_serving : ServeEnd → ℕ
status_of_serving Done = 0
status_of_serving WriteFault = 5
status_of_serving OutOfMemory = 6
status_of_serving ListenFault = 7
