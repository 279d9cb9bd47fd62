-- The faults of a JSON text and their places. Of all faults that hold the one with the least place is answered, but that
-- of bytes which aren't UTF-8 comes before all others.
use Rattle.std.specs.Prelude.{◌≡◌, ◌⊎◌, ℕ, ◌+◌, ◌<◌, ◌≤◌, List, [], ◌∷◌, ◌++◌, length, take, true, IsUtf8, Result, Ok, Err}
use Rattle.std.specs.List.{Any}
use Rattle.sc_decimal.specs.Value.{is_wide}
use Rattle.sc_json.specs.declared.tree.Json.{Json}
use Rattle.sc_json.specs.declared.tree.Member.{Member, out-Member}
use Rattle.sc_json.specs.declared.fault.JsonFault.{JsonFault}
use Rattle.sc_json.specs.declared.fault.JsonFault.TheVariants.{Syntax, Duplicate, TooDeep, NumberTooWide, NotUtf8, OutOfMemory}
use Rattle.sc_json.specs.Grammar.{AreBlanks, Quoted, Literal, Padded, Begun, Named}
use Rattle.sc_json.specs.Fronts.{IsLongestFront}
use Rattle.sc_json.specs.Spells.{Spells}

-- bytes behind which a value may begin, and how many lists and objects are open there
pub data Awaits : List ℕ → ℕ → Type 0 where
  outermost : (w : List ℕ) → AreBlanks w → Awaits w 0
  element : (o a w : List ℕ) (depth : ℕ) (ys : List Json) → Awaits o depth → Begun a ys → AreBlanks w → Awaits (o ++ 91 ∷ (a ++ w)) (depth + 1)
  member_value : (o a l q r w name : List ℕ) (depth : ℕ) (ys : List Member) → Awaits o depth → Named a ys → AreBlanks l → Quoted q name → AreBlanks r → AreBlanks w
      → Awaits (o ++ 123 ∷ (a ++ l ++ q ++ r ++ 58 ∷ w)) (depth + 1)

-- a bracket or brace that opens level 65
pub record OpensTooDeep (bytes : List ℕ) (at : ℕ) : Type 0 where
  pub before : List ℕ
  pub bracket : ℕ
  pub rest : List ℕ
  pub is : bytes ≡ before ++ bracket ∷ rest
  pub place : at ≡ length before
  pub awaits : Awaits before 64
  pub opens : (bracket ≡ 91) ⊎ (bracket ≡ 123)

-- the longest whole number that begins here, which is too wide
pub record IsTooWide (bytes : List ℕ) (at : ℕ) : Type 0 where
  pub before : List ℕ
  pub number : List ℕ
  pub rest : List ℕ
  pub depth : ℕ
  pub is : bytes ≡ before ++ number ++ rest
  pub place : at ≡ length before
  pub awaits : Awaits before depth
  pub literal : Literal number
  pub longest : (more others : List ℕ) → rest ≡ more ++ others → Literal (number ++ more) → more ≡ []
  pub wide : is_wide number ≡ true

-- a member's whole name, from its opening quote on, which an earlier member of the object has too, both after their
-- escapes are read
pub record IsDuplicate (bytes : List ℕ) (at : ℕ) : Type 0 where
  pub before : List ℕ
  pub members : List ℕ
  pub blank : List ℕ
  pub quoted : List ℕ
  pub rest : List ℕ
  pub depth : ℕ
  pub earlier : List Member
  pub name : List ℕ
  pub is : bytes ≡ before ++ 123 ∷ (members ++ blank ++ quoted ++ rest)
  pub place : at ≡ length (before ++ 123 ∷ (members ++ blank))
  pub awaits : Awaits before depth
  pub named : Named members earlier
  pub are_blank : AreBlanks blank
  pub spells : Quoted quoted name
  pub again : Any (λ m. (out-Member m).name ≡ name) earlier

-- the faults that a text of whole characters has
abbrev pub HasFault : List ℕ → JsonFault → Type 0
HasFault bytes (Syntax at) = ((tree : Json) → ¬ Padded bytes tree) × IsLongestFront bytes at
HasFault bytes (Duplicate at) = IsDuplicate bytes at
HasFault bytes (TooDeep at) = OpensTooDeep bytes at
HasFault bytes (NumberTooWide at) = IsTooWide bytes at
HasFault bytes (NotUtf8 at) = ⊥
HasFault bytes OutOfMemory = ⊥

abbrev pub place_of : JsonFault → ℕ
place_of (Syntax at) = at
place_of (Duplicate at) = at
place_of (TooDeep at) = at
place_of (NumberTooWide at) = at
place_of (NotUtf8 at) = at
place_of OutOfMemory = 0

-- the first of them
pub record IsFirstFault (bytes : List ℕ) (fault : JsonFault) : Type 0 where
  pub has : HasFault bytes fault
  pub first : (other : JsonFault) → HasFault bytes other → place_of fault ≤ place_of other

-- the first byte that isn't part of a whole character
pub record IsCut (bytes : List ℕ) (at : ℕ) : Type 0 where
  pub within : at < length bytes
  pub whole : IsUtf8 (take at bytes)
  pub longest : (n : ℕ) → n ≤ length bytes → IsUtf8 (take n bytes) → n ≤ at

abbrev pub JsonFaultOf : List ℕ → JsonFault → Type 0
JsonFaultOf bytes (NotUtf8 at) = IsCut bytes at
JsonFaultOf bytes fault = IsUtf8 bytes × IsFirstFault bytes fault

-- what a reader answers of bytes: the good tree that they spell, their fault, or that memory ran out
abbrev pub Answers : List ℕ → Result Json JsonFault → Type 0
Answers bytes (Ok tree) = Spells bytes tree
Answers bytes (Err OutOfMemory) = Unit {0}
Answers bytes (Err fault) = JsonFaultOf bytes fault
