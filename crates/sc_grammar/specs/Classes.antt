-- Which classes of tokens may come first, by what each rule may begin with and what may come behind it.
use Rattle.std.specs.Prelude.{◌≡◌, ◌⊎◌, List, [], ◌∷◌, ◌++◌, Bool, true, false, ◌&&◌, ◌||◌, not}
use Rattle.sc_grammar.specs.Grammar.{Item, tok, non, act}

abbrev pub In : {A : Type 0} → A → List A → Type 0
In x [] = ⊥
In x (y ∷ ys) = (x ≡ y) ⊎ In x ys

abbrev pub Each : {A : Type 0} → (A → Type 0) → List A → Type 0
Each P [] = Unit {0}
Each P (x ∷ xs) = P x × Each P xs

abbrev pub when : {A : Type 0} → Bool → List A → List A
when true xs = xs
when false xs = []

abbrev pub is_in : {A : Type 0} → (A → A → Bool) → A → List A → Bool
is_in same x [] = false
is_in same x (y ∷ ys) = same x y || is_in same x ys

-- whether each of the one list is in the other
abbrev pub all_in : {A : Type 0} → (A → A → Bool) → List A → List A → Bool
all_in same [] ys = true
all_in same (x ∷ xs) ys = is_in same x ys && all_in same xs ys

-- whether the items may derive nothing
abbrev pub nullable : {C N K : Type 0} → (N → Bool) → List (Item C N K) → Bool
nullable is_empty [] = true
nullable is_empty (tok c ∷ is) = false
nullable is_empty (act k ∷ is) = nullable is_empty is
nullable is_empty (non n ∷ is) = is_empty n && nullable is_empty is

-- the classes that may come first
abbrev pub firsts : {C N K : Type 0} → (N → List C) → (N → Bool) → List (Item C N K) → List C
firsts starts is_empty [] = []
firsts starts is_empty (tok c ∷ is) = c ∷ []
firsts starts is_empty (act k ∷ is) = firsts starts is_empty is
firsts starts is_empty (non n ∷ is) = starts n ++ when (is_empty n) (firsts starts is_empty is)

-- whether what comes behind each rule within an alternative of `n` is among its followers
abbrev pub are_followed : {C N K : Type 0} → (C → C → Bool) → (N → List C) → (N → Bool) → (N → List C) → N → List (Item C N K) → Bool
are_followed same starts is_empty follows n [] = true
are_followed same starts is_empty follows n (tok c ∷ is) = are_followed same starts is_empty follows n is
are_followed same starts is_empty follows n (act k ∷ is) = are_followed same starts is_empty follows n is
are_followed same starts is_empty follows n (non m ∷ is) =
    all_in same (firsts starts is_empty is) (follows m) && (not (nullable is_empty is) || all_in same (follows n) (follows m)) && are_followed same starts is_empty follows n is

-- whether the table of first classes, of empty rules and of followers has what an alternative asks of it
abbrev pub is_fitting : {C N K : Type 0} → (C → C → Bool) → (N → List C) → (N → Bool) → (N → List C) → N → List (Item C N K) → Bool
is_fitting same starts is_empty follows n a =
    all_in same (firsts starts is_empty a) (starts n) && (not (nullable is_empty a) || is_empty n) && are_followed same starts is_empty follows n a
