-- What a listener does with its connections.
use Rattle.std.specs.Prelude.{◌≡◌, ℕ, ◌<◌, ◌≤◌, ◌+◌, List, [], ◌∷◌, ◌++◌, length, ⊤, None, Some, Ok, Err}
use Rattle.std.specs.declared.option.Option.{Option}
use Rattle.std.specs.declared.result.Result.{Result}

-- a known list or number stays as it was, and one that isn't told stays untold
abbrev pub Stays : {X : Type 0} → Option X → Option X → Type 0
Stays None None = ⊤
Stays None (Some y) = ⊥
Stays (Some x) None = ⊥
Stays (Some x) (Some y) = y ≡ x

-- the known list loses its first
abbrev pub HandsOut : {X : Type 0} → Option (List X) → Option (List X) → X → Type 0
HandsOut None new x = ⊤
HandsOut (Some xs) None x = ⊥
HandsOut (Some xs) (Some ys) x = xs ≡ x ∷ ys

-- the known number rises by one, and one that isn't told stays untold
abbrev pub CountsUp : Option ℕ → Option ℕ → Type 0
CountsUp None None = ⊤
CountsUp None (Some m) = ⊥
CountsUp (Some n) None = ⊥
CountsUp (Some n) (Some m) = m ≡ n + 1

-- the known list gets one more at its end
abbrev pub TakesBack : {X : Type 0} → Option (List X) → Option (List X) → X → Type 0
TakesBack None new x = ⊤
TakesBack (Some xs) None x = ⊥
TakesBack (Some xs) (Some ys) x = ys ≡ xs ++ x ∷ []

abbrev pub NoneLeft : {X : Type 0} → Option (List X) → Type 0
NoneLeft None = ⊤
NoneLeft (Some xs) = xs ≡ []

-- fewer were handed back than were handed out, where that is told
abbrev pub IsOwed : {X : Type 0} → Option ℕ → Option (List X) → Type 0
IsOwed None back = ⊤
IsOwed (Some n) None = ⊤
IsOwed (Some n) (Some xs) = length xs < n

-- at most as many were handed back as were handed out, where both are told
abbrev pub AtMostOut : {X : Type 0} → Option ℕ → Option (List X) → Type 0
AtMostOut None back = ⊤
AtMostOut (Some n) None = ⊤
AtMostOut (Some n) (Some xs) = length xs ≤ n

-- what `accept` does to the connections left and to the number handed out
abbrev pub Accepts : {E X : Type 0} → Option (List X) → Option (List X) → Option ℕ → Option ℕ → Result (Option X) E → Type 0
Accepts left left' out out' (Ok (Some x)) = HandsOut left left' x × CountsUp out out'
Accepts left left' out out' (Ok None) = NoneLeft left × Stays left left' × Stays out out'
Accepts left left' out out' (Err e) = Stays left left' × Stays out out'
