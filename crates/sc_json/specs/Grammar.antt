-- The grammar of RFC 8259 over bytes, and the tree that a text spells. Depth, equal names and the width of numbers don't
-- count here: a number spells the decimal number of its literal, however long.
use Rattle.std.specs.Prelude.{◌≡◌, ◌≢◌, ℕ, ◌≤◌, ◌<◌, List, [], ◌∷◌, ◌++◌, true, false, ◌⊎◌, ◌+◌, ◌*◌, Some, encode_utf8}
use Rattle.std.specs.Char.{IsScalar}
use Rattle.sc_decimal.specs.Value.{number_of}
use Rattle.sc_json.specs.declared.tree.Json.{Json}
use Rattle.sc_json.specs.declared.tree.Json.TheVariants.{Null, Truth, Number, Text, List as Many, Object}
use Rattle.sc_json.specs.declared.tree.Member.{Member, roll-Member}
use Rattle.sc_json.specs.Characters.{is_blank_byte, is_digit_byte}
use Rattle.sc_json.specs.Hex.{hex_of, halves}

-- ---- white space (section 2)

abbrev pub AreBlanks : List ℕ → Type 0
AreBlanks [] = Unit {0}
AreBlanks (b ∷ bs) = (is_blank_byte b ≡ true) × AreBlanks bs

-- ---- texts in quotes (section 7)

-- a backslash and a letter, and the byte that they stand for
pub data Letter : ℕ → ℕ → Type 0 where
  quote : Letter 34 34
  backslash : Letter 92 92
  slash : Letter 47 47
  b : Letter 98 8
  f : Letter 102 12
  n : Letter 110 10
  r : Letter 114 13
  t : Letter 116 9

-- four hexadecimal digits and their number
pub record AreHex (a b c d : ℕ) (code : ℕ) : Type 0 where
  pub w : ℕ
  pub x : ℕ
  pub y : ℕ
  pub z : ℕ
  pub w_is : hex_of a ≡ Some w
  pub x_is : hex_of b ≡ Some x
  pub y_is : hex_of c ≡ Some y
  pub z_is : hex_of d ≡ Some z
  pub code_is : code ≡ ((w * 16 + x) * 16 + y) * 16 + z

-- a character that stands for itself, in UTF-8: any but the control characters, the quote and the backslash
pub record IsPlain (m stands : List ℕ) : Type 0 where
  pub c : ℕ
  pub scalar : IsScalar c
  pub low : 32 ≤ c
  pub no_quote : c ≢ 34
  pub no_slash : c ≢ 92
  pub is : m ≡ encode_utf8 c
  pub stands_is : stands ≡ encode_utf8 c

-- an escape by letter
pub record IsLetter (m stands : List ℕ) : Type 0 where
  pub c : ℕ
  pub v : ℕ
  pub names : Letter c v
  pub is : m ≡ 92 ∷ c ∷ []
  pub stands_is : stands ≡ v ∷ []

-- an escape by number, of no surrogate: `\u` and four digits
pub record IsUnit (m stands : List ℕ) : Type 0 where
  pub a : ℕ
  pub b : ℕ
  pub c : ℕ
  pub d : ℕ
  pub code : ℕ
  pub hex : AreHex a b c d code
  pub single : (code < 55296) ⊎ (57344 ≤ code)
  pub is : m ≡ 92 ∷ 117 ∷ a ∷ b ∷ c ∷ d ∷ []
  pub stands_is : stands ≡ encode_utf8 code

-- a character past four digits, by the escapes of its high and its low surrogate
pub record IsPair (m stands : List ℕ) : Type 0 where
  pub a : ℕ
  pub b : ℕ
  pub c : ℕ
  pub d : ℕ
  pub e : ℕ
  pub f : ℕ
  pub g : ℕ
  pub h : ℕ
  pub high : ℕ
  pub low : ℕ
  pub first : AreHex a b c d high
  pub from_high : 55296 ≤ high
  pub to_high : high < 56320
  pub second : AreHex e f g h low
  pub from_low : 56320 ≤ low
  pub to_low : low < 57344
  pub is : m ≡ 92 ∷ 117 ∷ a ∷ b ∷ c ∷ d ∷ 92 ∷ 117 ∷ e ∷ f ∷ g ∷ h ∷ []
  pub stands_is : stands ≡ encode_utf8 (halves high low)

-- one character of a text, as itself or by an escape, and the bytes that it stands for
pub data Piece : List ℕ → List ℕ → Type 0 where
  plain : (m stands : List ℕ) → IsPlain m stands → Piece m stands
  letter : (m stands : List ℕ) → IsLetter m stands → Piece m stands
  unit : (m stands : List ℕ) → IsUnit m stands → Piece m stands
  pair : (m stands : List ℕ) → IsPair m stands → Piece m stands

-- the characters of a text in turn, and the bytes that they stand for
pub data Pieces : List ℕ → List ℕ → Type 0 where
  no_piece : Pieces [] []
  one_more : (raw piece bytes stands : List ℕ) → Pieces raw bytes → Piece piece stands → Pieces (raw ++ piece) (bytes ++ stands)

-- a text with its quotes, and what it stands for
pub record Quoted (m bytes : List ℕ) : Type 0 where
  pub raw : List ℕ
  pub is : m ≡ 34 ∷ (raw ++ 34 ∷ [])
  pub pieces : Pieces raw bytes

-- ---- numbers (section 6)

abbrev pub AreDigits : List ℕ → Type 0
AreDigits [] = Unit {0}
AreDigits (d ∷ ds) = (is_digit_byte d ≡ true) × AreDigits ds

-- a digit 0, or digits of which the first is none
pub data Whole : List ℕ → Type 0 where
  zero_digit : Whole (48 ∷ [])
  digits : (d : ℕ) (ds : List ℕ) → 49 ≤ d → d ≤ 57 → AreDigits ds → Whole (d ∷ ds)

pub data Minus : List ℕ → Type 0 where
  positive : Minus []
  negative : Minus (45 ∷ [])

pub data Fraction : List ℕ → Type 0 where
  no_fraction : Fraction []
  fraction : (d : ℕ) (ds : List ℕ) → is_digit_byte d ≡ true → AreDigits ds → Fraction (46 ∷ d ∷ ds)

pub data Sign : List ℕ → Type 0 where
  no_sign : Sign []
  plus : Sign (43 ∷ [])
  minus : Sign (45 ∷ [])

pub data Power : List ℕ → Type 0 where
  no_power : Power []
  power : (mark : ℕ) (s ds : List ℕ) (d : ℕ) → (mark ≡ 101) ⊎ (mark ≡ 69) → Sign s → is_digit_byte d ≡ true → AreDigits ds → Power (mark ∷ (s ++ d ∷ ds))

pub data Literal : List ℕ → Type 0 where
  literal : (s w f p : List ℕ) → Minus s → Whole w → Fraction f → Power p → Literal (s ++ w ++ f ++ p)

-- ---- values (sections 3 to 5)

abbrev pub null_text : List ℕ
null_text = 110 ∷ 117 ∷ 108 ∷ 108 ∷ []

abbrev pub true_text : List ℕ
true_text = 116 ∷ 114 ∷ 117 ∷ 101 ∷ []

abbrev pub false_text : List ℕ
false_text = 102 ∷ 97 ∷ 108 ∷ 115 ∷ 101 ∷ []

abbrev pub member : List ℕ → Json → Member
member name v = roll-Member (record { name = name; value = v })

mutual
  -- a value, with no white space round it
  pub data Value : List ℕ → Json → Type 0 where
    null : Value null_text Null
    yes : Value true_text (Truth true)
    no : Value false_text (Truth false)
    number : (ds : List ℕ) → Literal ds → Value ds (Number (record { literal = ds; dec = number_of ds }))
    text : (m bytes : List ℕ) → Quoted m bytes → Value m (Text bytes)
    empty_list : (w : List ℕ) → AreBlanks w → Value (91 ∷ w ++ 93 ∷ []) (Many [])
    list : (a c : List ℕ) (ys : List Json) (x : Json) → Begun a ys → Padded c x → Value (91 ∷ (a ++ c ++ 93 ∷ [])) (Many (ys ++ x ∷ []))
    empty_object : (w : List ℕ) → AreBlanks w → Value (123 ∷ w ++ 125 ∷ []) (Object [])
    object : (a c : List ℕ) (ys : List Member) (x : Member) → Named a ys → Field c x → Value (123 ∷ (a ++ c ++ 125 ∷ [])) (Object (ys ++ x ∷ []))

  -- a value between white space, which is also what a whole JSON text is
  pub data Padded : List ℕ → Json → Type 0 where
    pad : (l m r : List ℕ) (v : Json) → AreBlanks l → Value m v → AreBlanks r → Padded (l ++ m ++ r) v

  -- whole elements, each with the comma behind it
  pub data Begun : List ℕ → List Json → Type 0 where
    none : Begun [] []
    more : (a c : List ℕ) (ys : List Json) (x : Json) → Begun a ys → Padded c x → Begun (a ++ c ++ 44 ∷ []) (ys ++ x ∷ [])

  -- a member, with the white space round its parts
  pub data Field : List ℕ → Member → Type 0 where
    field : (l q r c name : List ℕ) (v : Json) → AreBlanks l → Quoted q name → AreBlanks r → Padded c v → Field (l ++ q ++ r ++ 58 ∷ c) (member name v)

  -- whole members, each with the comma behind it
  pub data Named : List ℕ → List Member → Type 0 where
    no_name : Named [] []
    more_names : (a c : List ℕ) (ys : List Member) (x : Member) → Named a ys → Field c x → Named (a ++ c ++ 44 ∷ []) (ys ++ x ∷ [])
