-- What a text is as a token under a sort: of which key list, or else its first fault.
use Rattle.std.specs.Prelude.{◌≡◌, ◌≢◌, ℕ, ◌+◌, ◌%◌, Bool, ◌&&◌, ◌||◌, nat_le, List, length, Result, Ok, Err}
use Rattle.std.specs.List.{AllPass}
use Rattle.hex.specs.Hex.{decode_of}
use Rattle.sc_json.specs.declared.tree.Json.{Json}
use Rattle.sc_json.specs.declared.tree.Json.TheVariants as trees
use Rattle.sc_json.specs.Spells.{Spells}
use Rattle.sc_sort.specs.declared.key.Key.{Key}
use Rattle.sc_sort.specs.Keys.{Keys}
use Rattle.sc_token.specs.declared.fault.TokenFault.{TokenFault}
use Rattle.sc_token.specs.declared.fault.TokenFault.TheVariants.{NotHex, NotAList, WrongCount, WrongKind, OutOfMemory}
use Rattle.sc_token.specs.Token.{token_of}
use Rattle.sc_token.specs.Fits.{FitsSort}

-- `0` to `9` or `a` to `f`
abbrev pub is_lower_digit : ℕ → Bool
is_lower_digit b = (nat_le 48 b && nat_le b 57) || (nat_le 97 b && nat_le b 102)

-- lower-case hexadecimal digits in pairs
pub record IsHex (text : List ℕ) : Type 0 where
  pub even : length text % 2 ≡ 0
  pub digits : AllPass is_lower_digit text

-- the bytes that such digits stand for
pub record IsHexOf (text bytes : List ℕ) : Type 0 where
  pub hex : IsHex text
  pub bytes_are : decode_of text ≡ Ok bytes

-- digits of bytes that spell a list
pub record IsOfList (text : List ℕ) (elements : List Json) : Type 0 where
  pub bytes : List ℕ
  pub hex : IsHexOf text bytes
  pub spelled : Spells bytes (trees.List elements)

-- the token of a key list that fits the sort
pub record IsTokenOf (sort : List Key) (keys : Keys) (text : List ℕ) : Type 0 where
  pub fits : FitsSort sort keys
  pub token : text ≡ token_of keys

-- digits of bytes that spell no list
pub record IsOfNoList (text : List ℕ) : Type 0 where
  pub bytes : List ℕ
  pub hex : IsHexOf text bytes
  pub none : (elements : List Json) → Spells bytes (trees.List elements) → ⊥

-- a list that hasn't an element for each key, and two more
pub record HasOtherCount (sort : List Key) (text : List ℕ) (count : ℕ) : Type 0 where
  pub elements : List Json
  pub list : IsOfList text elements
  pub count_is : count ≡ length elements
  pub other : count ≢ length sort + 2

-- a list of so many elements, and no token of a key list that fits the sort
pub record HasOtherKind (sort : List Key) (text : List ℕ) : Type 0 where
  pub elements : List Json
  pub list : IsOfList text elements
  pub count_is : length elements ≡ length sort + 2
  pub none : (keys : Keys) → IsTokenOf sort keys text → ⊥

-- the key list of a token, or the first fault that holds; want of memory says nothing
abbrev pub Answers : List Key → List ℕ → Result Keys TokenFault → Type 0
Answers sort text (Ok keys) = IsTokenOf sort keys text
Answers sort text (Err NotHex) = IsHex text → ⊥
Answers sort text (Err NotAList) = IsOfNoList text
Answers sort text (Err (WrongCount count)) = HasOtherCount sort text count
Answers sort text (Err WrongKind) = HasOtherKind sort text
Answers sort text (Err OutOfMemory) = Unit {0}
