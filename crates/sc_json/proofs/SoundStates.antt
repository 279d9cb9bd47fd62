-- What the bytes are that lead the machine to a state, in the words of the grammar.
use Rattle.std.proofs.Common.{◌≡◌, ℕ, List, [], ◌∷◌, ◌++◌, length, Bool, true, false}
use Rattle.sc_json.specs.declared.tree.Json.{Json}
use Rattle.sc_json.specs.declared.tree.Member.{Member}
use Rattle.sc_json.specs.declared.state.State.{State}
use Rattle.sc_json.specs.declared.state.Part.{Part}
use Rattle.sc_json.specs.declared.state.Piece as pieces
use Rattle.sc_json.specs.declared.state.Letters.{Letters}
use Rattle.sc_json.specs.declared.state.Letters.TheVariants.{T, Tr, Tru, F, Fa, Fal, Fals, N, Nu, Nul}
use Rattle.sc_json.specs.declared.state.Frame.{Frame}
use Rattle.sc_json.specs.declared.state.Frame.TheVariants as frames
use Rattle.sc_json.specs.declared.state.Mode.{Mode}
use Rattle.sc_json.specs.declared.state.Mode.TheVariants.{Value, First, FirstName, Name, Colon, Word, Number, Quoted, After}
use Rattle.sc_json.specs.Grammar as grammar
use Rattle.sc_json.specs.Grammar.{AreBlanks, Padded, Begun, Named}
use Rattle.sc_json.proofs.SoundNumbers.{InPart}
use Rattle.sc_json.proofs.SoundTexts.{Writes}

-- ---- what is open

-- an open list, up to where its next element may begin
pub record InList (outer : List ℕ → Type 0) (ys : List Json) (o : List ℕ) : Type 0 where
  pub p : List ℕ
  pub l : List ℕ
  pub a : List ℕ
  pub inside : outer p
  pub blank : AreBlanks l
  pub begun : Begun a ys
  pub is : o ≡ p ++ (l ++ (91 ∷ a))

-- an open object, up to where its next member may begin
pub record InObject (outer : List ℕ → Type 0) (ys : List Member) (o : List ℕ) : Type 0 where
  pub p : List ℕ
  pub l : List ℕ
  pub a : List ℕ
  pub inside : outer p
  pub blank : AreBlanks l
  pub named : Named a ys
  pub is : o ≡ p ++ (l ++ (123 ∷ a))

-- an open object, up to behind a name and its white space
pub record BehindName (outer : List ℕ → Type 0) (ys : List Member) (name o : List ℕ) : Type 0 where
  pub p : List ℕ
  pub w : List ℕ
  pub q : List ℕ
  pub r : List ℕ
  pub object : InObject outer ys p
  pub blank : AreBlanks w
  pub quoted : grammar.Quoted q name
  pub behind : AreBlanks r
  pub is : o ≡ p ++ (w ++ q ++ r)

-- and up to behind the colon
pub record InMember (outer : List ℕ → Type 0) (ys : List Member) (name o : List ℕ) : Type 0 where
  pub c : List ℕ
  pub named : BehindName outer ys name c
  pub is : o ≡ c ++ 58 ∷ []

abbrev pub InFrame : Frame → (List ℕ → Type 0) → List ℕ → Type 0
InFrame (frames.List ys) outer o = InList outer ys o
InFrame (frames.Object ys) outer o = InObject outer ys o
InFrame (frames.Member ys name) outer o = InMember outer ys name o

-- the bytes up to where something may begin in the innermost that is open
abbrev pub Inside : List Frame → List ℕ → Type 0
Inside [] o = o ≡ []
Inside (f ∷ k) o = InFrame f (Inside k) o

-- ---- what comes

pub record AtValue (k : List Frame) (bs : List ℕ) : Type 0 where
  pub o : List ℕ
  pub l : List ℕ
  pub inside : Inside k o
  pub blank : AreBlanks l
  pub is : bs ≡ o ++ l

-- behind a bracket and white space
pub record Opened (bracket : ℕ) (outer : List ℕ → Type 0) (bs : List ℕ) : Type 0 where
  pub p : List ℕ
  pub l : List ℕ
  pub w : List ℕ
  pub inside : outer p
  pub blank : AreBlanks l
  pub behind : AreBlanks w
  pub is : bs ≡ p ++ (l ++ (bracket ∷ w))

abbrev pub AtFirst : List Frame → List ℕ → Type 0
AtFirst (frames.List [] ∷ k) bs = Opened 91 (Inside k) bs
AtFirst _ bs = ⊥

abbrev pub AtFirstName : List Frame → List ℕ → Type 0
AtFirstName (frames.Object [] ∷ k) bs = Opened 123 (Inside k) bs
AtFirstName _ bs = ⊥

-- a name stands only in an object
abbrev pub MayName : Bool → List Frame → Type 0
MayName false k = Unit {0}
MayName true (frames.Object ys ∷ k) = Unit {0}
MayName true _ = ⊥

pub record AtName (k : List Frame) (bs : List ℕ) : Type 0 where
  pub place : AtValue k bs
  pub may_name : MayName true k

abbrev pub AtColon : List Frame → List ℕ → Type 0
AtColon (frames.Member ys name ∷ k) bs = BehindName (Inside k) ys name bs
AtColon _ bs = ⊥

abbrev pub letters_of : Letters → List ℕ
letters_of T = 116 ∷ []
letters_of Tr = 116 ∷ 114 ∷ []
letters_of Tru = 116 ∷ 114 ∷ 117 ∷ []
letters_of F = 102 ∷ []
letters_of Fa = 102 ∷ 97 ∷ []
letters_of Fal = 102 ∷ 97 ∷ 108 ∷ []
letters_of Fals = 102 ∷ 97 ∷ 108 ∷ 115 ∷ []
letters_of N = 110 ∷ []
letters_of Nu = 110 ∷ 117 ∷ []
letters_of Nul = 110 ∷ 117 ∷ 108 ∷ []

pub record AtWord (k : List Frame) (x : Letters) (bs : List ℕ) : Type 0 where
  pub o : List ℕ
  pub l : List ℕ
  pub inside : Inside k o
  pub blank : AreBlanks l
  pub is : bs ≡ o ++ (l ++ letters_of x)

pub record AtNumber (k : List Frame) (part : Part) (ds : List ℕ) (from : ℕ) (bs : List ℕ) : Type 0 where
  pub o : List ℕ
  pub l : List ℕ
  pub inside : Inside k o
  pub blank : AreBlanks l
  pub so_far : InPart part ds
  pub from_is : from ≡ length (o ++ l)
  pub is : bs ≡ o ++ (l ++ ds)

pub record AtQuoted (k : List Frame) (is_name : Bool) (piece : pieces.Piece) (bytes : List ℕ) (from : ℕ) (bs : List ℕ) : Type 0 where
  pub o : List ℕ
  pub l : List ℕ
  pub m : List ℕ
  pub inside : Inside k o
  pub blank : AreBlanks l
  pub may_name : MayName is_name k
  pub writes : Writes m bytes piece
  pub from_is : from ≡ length (o ++ l)
  pub is : bs ≡ o ++ (l ++ (34 ∷ m))

pub record AtAfter (k : List Frame) (v : Json) (bs : List ℕ) : Type 0 where
  pub o : List ℕ
  pub c : List ℕ
  pub inside : Inside k o
  pub padded : Padded c v
  pub is : bs ≡ o ++ c

-- these bytes lead here
abbrev pub Reads : List Frame → Mode → List ℕ → Type 0
Reads k Value bs = AtValue k bs
Reads k First bs = AtFirst k bs
Reads k FirstName bs = AtFirstName k bs
Reads k Name bs = AtName k bs
Reads k Colon bs = AtColon k bs
Reads k (Word x) bs = AtWord k x bs
Reads k (Number part ds from) bs = AtNumber k part ds from bs
Reads k (Quoted is_name piece bytes from) bs = AtQuoted k is_name piece bytes from bs
Reads k (After v) bs = AtAfter k v bs

abbrev pub ReadsTo : List ℕ → State → Type 0
ReadsTo bs s = Reads s.stack s.mode bs
