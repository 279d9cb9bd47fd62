-- How the connections of a listener are served: one session after the other, each from where the one before left the pass.
use Rattle.std.specs.Prelude.{◌≡◌, ℕ, ◌≤◌, ◌⊎◌, Bool, true, List, [], ◌∷◌, ◌++◌, length, ⊤, None, Some}
use Rattle.std.specs.declared.option.Option.{Option}
use Rattle.sc_outside.specs.Causes.{Rose}
use Rattle.sc_outside.specs.Connections.{HandsOut, TakesBack, NoneLeft, Stays}
use Rattle.sc_visit.specs.Visits.{Visitor}
use Rattle.sc_session.specs.declared.ending.ConnEnd.{ConnEnd}
use Rattle.sc_session.specs.Service.{Service}
use Rattle.sc_session.specs.Session.{Place, Session}
use Rattle.sc_server.specs.declared.listening.Asked.{Asked}
use Rattle.sc_server.specs.declared.listening.Asked.TheVariants as asked

-- the known list loses these from its front
abbrev pub HandsOutAll : {X : Type 0} → Option (List X) → Option (List X) → List X → Type 0
HandsOutAll None new xs = ⊤
HandsOutAll (Some all) None xs = ⊥
HandsOutAll (Some all) (Some rest) xs = all ≡ xs ++ rest

-- these are the whole list, where it is known
abbrev pub AreAll : {X : Type 0} → Option (List X) → List X → Type 0
AreAll None xs = ⊤
AreAll (Some all) xs = all ≡ xs

-- the known list gets these at its end
abbrev pub TakesBackAll : {X : Type 0} → Option (List X) → Option (List X) → List X → Type 0
TakesBackAll None new xs = ⊤
TakesBackAll (Some ys) None xs = ⊥
TakesBackAll (Some ys) (Some zs) xs = zs ≡ ys ++ xs

module _ {In Out E L J : Type 0} (left : In → Option (List ℕ)) (ended : In → Bool) (faults : In → ℕ) (written : Out → Option (List ℕ)) (write_faults : Out → ℕ) (service : Service E L J) where
  -- a connection and the pass that serves it, at one moment
  abbrev pub place_of : In × Out → Visitor E → Place E
  place_of c visitor = record {
    left = left c.0;
    ended = ended c.0;
    faults = faults c.0;
    written = written c.1;
    write_faults = write_faults c.1;
    visitor = visitor;
  }

  -- connections as they were handed out, and as they were handed back after their sessions
  abbrev pub AreServed : List (In × Out) → List (In × Out) → Visitor E → Visitor E → Type 0
  AreServed [] [] old new = new ≡ old
  AreServed [] (d ∷ ds) old new = ⊥
  AreServed (c ∷ cs) [] old new = ⊥
  AreServed (c ∷ cs) (d ∷ ds) old new = (mid : Visitor E) × (end : ConnEnd) × Session service (place_of c old) (place_of d mid) end × AreServed cs ds mid new

  module _ {N : Type 0} (net_left net_back : N → Option (List (In × Out))) (net_faults : N → ℕ) where
    -- the listener was asked once
    abbrev pub ListensOnce : Asked → N → N → Visitor E → Visitor E → Type 0
    ListensOnce asked.Served old_net new_net old new =
        (given : In × Out) × (back : In × Out) × (end : ConnEnd) × Session service (place_of given old) (place_of back new) end
        × HandsOut (net_left old_net) (net_left new_net) given × TakesBack (net_back old_net) (net_back new_net) back × (net_faults old_net ≤ net_faults new_net)
    ListensOnce asked.NoneLeft old_net new_net old new =
        (new ≡ old) × NoneLeft (net_left old_net) × Stays (net_left old_net) (net_left new_net) × Stays (net_back old_net) (net_back new_net) × (net_faults old_net ≤ net_faults new_net)
    ListensOnce asked.Failed old_net new_net old new =
        (new ≡ old) × Stays (net_left old_net) (net_left new_net) × Stays (net_back old_net) (net_back new_net) × (net_faults old_net ≤ net_faults new_net) × Rose (net_faults old_net) (net_faults new_net)

    -- the listener was asked for connections, at most so many, and each was served and handed back; fewer only where none was left, or where it failed
    pub record IsListened (most : ℕ) (failed : Bool) (old_net new_net : N) (old new : Visitor E) : Type 0 where
      pub given : List (In × Out)
      pub back : List (In × Out)
      pub served : AreServed given back old new
      pub handed_out : HandsOutAll (net_left old_net) (net_left new_net) given
      pub handed_back : TakesBackAll (net_back old_net) (net_back new_net) back
      pub few : length given ≤ most
      pub all : (length given ≡ most) ⊎ AreAll (net_left old_net) given ⊎ (failed ≡ true)
      pub later : net_faults old_net ≤ net_faults new_net
      pub cause : failed ≡ true → Rose (net_faults old_net) (net_faults new_net)
