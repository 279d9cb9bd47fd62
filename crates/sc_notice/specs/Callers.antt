-- What contracts see of a queue of notices and of its passes: the list of a pass's calls with their answers.
use Rattle.std.specs.Prelude.{◌≡◌, ℕ, ◌+◌, ◌≤◌, Bool, List, [], ◌∷◌, ◌++◌, length, filter, flat_map, Option, Some, None, All}
use Rattle.std.specs.List.{sum_by}
use Rattle.atomic_table.specs.Seated.{TableId}
use Rattle.sc_notice.specs.declared.notice.Notice.{Notice}
use Rattle.sc_notice.specs.declared.notice.Call.{Call}
use Rattle.sc_notice.specs.declared.notice.Call.TheVariants.{Told, HandedBack, Heard, HeardNone}

-- which queue of notices it is, and for how many it has room
pub record Queue : Type 0 where
  pub queue : TableId
  pub calls : TableId
  pub room : ℕ

-- who tells and hears: of which queue, with how many of its 1,024 shares, and the calls so far
pub record Caller : Type 0 where
  pub of : Queue
  pub shares : ℕ
  pub calls : List Call

-- who has all shares is the only one who can tell and hear
abbrev pub HasAllShares : Caller → Type 0
HasAllShares caller = caller.shares ≡ 1_024

-- the notice that a call told
abbrev pub told_by : Call → List Notice
told_by (Told notice) = notice ∷ []
told_by (HandedBack notice) = []
told_by (Heard notice) = []
told_by HeardNone = []

-- the notice that a call heard
abbrev pub heard_by : Call → List Notice
heard_by (Told notice) = []
heard_by (HandedBack notice) = []
heard_by (Heard notice) = notice ∷ []
heard_by HeardNone = []

-- the notices that calls told, and those that they heard
abbrev pub told_in : List Call → List Notice
told_in calls = flat_map told_by calls

abbrev pub heard_in : List Call → List Notice
heard_in calls = flat_map heard_by calls

-- the call of a `tell` by its answer
abbrev pub tells : Notice → Option Notice → Call
tells notice None = Told notice
tells notice (Some back) = HandedBack notice

-- the call of a `hear` by its answer
abbrev pub hears : Option Notice → Call
hears None = HeardNone
hears (Some notice) = Heard notice

-- the caller has made one call more
pub record Calls (call : Call) (old new : Caller) : Type 0 where
  pub of_is : new.of ≡ old.of
  pub shares_are : new.shares ≡ old.shares
  pub calls_are : new.calls ≡ old.calls ++ call ∷ []

-- of those that the calls told, so many were not heard
abbrev pub AreWaiting : List Call → ℕ → Type 0
AreWaiting calls count = length (told_in calls) ≡ length (heard_in calls) + count

-- cards of a queue that has just been made: they have made no call, and together have all shares
pub record AreNew (of : Queue) (count : ℕ) (cards : List Caller) : Type 0 where
  pub count_is : length cards ≡ count
  pub each : All (λ card. (card.of ≡ of) × (card.calls ≡ [])) cards
  pub all : sum_by (λ card. card.shares) cards ≡ 1_024

-- these are all cards of the queue
pub record AreAll (of : Queue) (cards : List Caller) : Type 0 where
  pub each : All (λ card. card.of ≡ of) cards
  pub all : sum_by (λ card. card.shares) cards ≡ 1_024

-- the calls of all cards
abbrev pub all_calls : List Caller → List Call
all_calls cards = flat_map (λ card. card.calls) cards

-- so many notices were told and not heard, and none was heard more often than it was told
pub record Closes (cards : List Caller) (count : ℕ) : Type 0 where
  pub waiting : AreWaiting (all_calls cards) count
  pub heard : (test : Notice → Bool) → length (filter test (heard_in (all_calls cards))) ≤ length (filter test (told_in (all_calls cards)))
