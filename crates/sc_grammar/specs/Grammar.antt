-- Grammars that are read with one token of foresight: what their rules derive and what comes of it, which tokens may
-- begin that, and the machine that predicts by the next token.
use Rattle.std.specs.Prelude.{◌≡◌, List, [], ◌∷◌, ◌++◌, Option, Some}

-- a token of a class, what a rule derives, or a mark: something that is done at this place
pub data Item (C N K : Type 0) : Type 0 where
  tok : C → Item C N K
  non : N → Item C N K
  act : K → Item C N K

-- the items in order derive the tokens, which take the first state to the second: a rule in front stands for one of its
-- alternatives
pub data Derives (T C N K S : Type 0) (class_of : T → C) (eats : T → S → S) (does : K → S → S) (Rule : N → List (Item C N K) → Type 0) : List (Item C N K) → S → List T → S → Type 0 where
  done : (s : S) → Derives T C N K S class_of eats does Rule [] s [] s
  token : (t : T) (is : List (Item C N K)) (s : S) (ts : List T) (s' : S) → Derives T C N K S class_of eats does Rule is (eats t s) ts s' → Derives T C N K S class_of eats does Rule (tok (class_of t) ∷ is) s (t ∷ ts) s'
  mark : (k : K) (is : List (Item C N K)) (s : S) (ts : List T) (s' : S) → Derives T C N K S class_of eats does Rule is (does k s) ts s' → Derives T C N K S class_of eats does Rule (act k ∷ is) s ts s'
  rule : (n : N) (a is : List (Item C N K)) (s : S) (ts : List T) (s' : S) → Rule n a → Derives T C N K S class_of eats does Rule (a ++ is) s ts s' → Derives T C N K S class_of eats does Rule (non n ∷ is) s ts s'

-- some tokens behind these make them whole
pub record IsFront (T C N K S : Type 0) (class_of : T → C) (eats : T → S → S) (does : K → S → S) (Rule : N → List (Item C N K) → Type 0) (is : List (Item C N K)) (s : S) (ts : List T) : Type 0 where
  pub rest : List T
  pub end : S
  pub whole : Derives T C N K S class_of eats does Rule is s (ts ++ rest) end

-- the items that are to come before the token and the state, and both behind it
pub data Steps (T C N K S : Type 0) (class_of : T → C) (eats : T → S → S) (does : K → S → S) (predict : N → C → Option (List (Item C N K))) : List (Item C N K) → S → T → List (Item C N K) → S → Type 0 where
  takes : (t : T) (is : List (Item C N K)) (s : S) → Steps T C N K S class_of eats does predict (tok (class_of t) ∷ is) s t is (eats t s)
  marks : (k : K) (is : List (Item C N K)) (s : S) (t : T) (js : List (Item C N K)) (s' : S) → Steps T C N K S class_of eats does predict is (does k s) t js s' → Steps T C N K S class_of eats does predict (act k ∷ is) s t js s'
  opens : (n : N) (a is : List (Item C N K)) (s : S) (t : T) (js : List (Item C N K)) (s' : S) → predict n (class_of t) ≡ Some a → Steps T C N K S class_of eats does predict (a ++ is) s t js s' → Steps T C N K S class_of eats does predict (non n ∷ is) s t js s'

-- no items and state come behind the token
abbrev pub Refuses : (T C N K S : Type 0) (class_of : T → C) (eats : T → S → S) (does : K → S → S) (predict : N → C → Option (List (Item C N K))) → List (Item C N K) → S → T → Type 0
Refuses T C N K S class_of eats does predict is s t = (js : List (Item C N K)) (s' : S) → Steps T C N K S class_of eats does predict is s t js s' → ⊥

-- what the machine comes to by the tokens
pub data Runs (T C N K S : Type 0) (class_of : T → C) (eats : T → S → S) (does : K → S → S) (predict : N → C → Option (List (Item C N K))) : List (Item C N K) → S → List T → List (Item C N K) → S → Type 0 where
  stays : (is : List (Item C N K)) (s : S) → Runs T C N K S class_of eats does predict is s [] is s
  steps : (is : List (Item C N K)) (s : S) (t : T) (ms : List (Item C N K)) (m : S) (ts : List T) (js : List (Item C N K)) (s' : S) → Steps T C N K S class_of eats does predict is s t ms m → Runs T C N K S class_of eats does predict ms m ts js s' → Runs T C N K S class_of eats does predict is s (t ∷ ts) js s'
