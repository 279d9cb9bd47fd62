-- The reader as a machine, which takes one byte after another. A move says which state comes next, by the grammar
-- alone, and which limit the byte breaks, if any.
use Rattle.std.specs.Prelude.{◌≡◌, ℕ, ◌+◌, ◌-◌, ◌≤◌, List, [], ◌∷◌, ◌++◌, length, take, drop, Bool, true, false, ◌&&◌, ◌==◌, nat_le, if◌then◌else◌, Option, Some, None, Result, Ok, Err}
use Rattle.std.specs.Option.{option_map_or}
use Rattle.sc_base.specs.Text.{text_of}
use Rattle.sc_decimal.specs.Value.{number_of, is_number, is_wide}
use Rattle.sc_json.specs.declared.tree.Json.{Json}
use Rattle.sc_json.specs.declared.tree.Json.TheVariants as trees
use Rattle.sc_json.specs.declared.tree.Member.{Member, roll-Member}
use Rattle.sc_json.specs.declared.state.Mode.{Mode}
use Rattle.sc_json.specs.declared.state.Mode.TheVariants.{Value, First, FirstName, Name, Colon, Word, Number, Quoted, After}
use Rattle.sc_json.specs.declared.state.Frame.{Frame}
use Rattle.sc_json.specs.declared.state.Frame.TheVariants as frames
use Rattle.sc_json.specs.declared.state.State.{State}
use Rattle.sc_json.specs.declared.state.Part.{Part}
use Rattle.sc_json.specs.declared.state.Part.TheVariants as parts
use Rattle.sc_json.specs.declared.state.Piece.{Piece}
use Rattle.sc_json.specs.declared.state.Piece.TheVariants as pieces
use Rattle.sc_json.specs.declared.state.Letters.{Letters}
use Rattle.sc_json.specs.declared.state.Letters.TheVariants.{T, Tr, Tru, F, Fa, Fal, Fals, N, Nu, Nul}
use Rattle.sc_json.specs.declared.quoted.Added.{Added}
use Rattle.sc_json.specs.declared.quoted.Added.TheVariants.{Nothing, Byte, Scalar}
use Rattle.sc_json.specs.declared.fault.JsonFault.{JsonFault}
use Rattle.sc_json.specs.declared.fault.JsonFault.TheVariants as faults
use Rattle.sc_json.specs.declared.fault.StepFault.{StepFault}
use Rattle.sc_json.specs.declared.fault.StepFault.TheVariants as steps
pub use Rattle.sc_json.specs.Characters.{is_blank_byte}
pub use Rattle.sc_json.specs.Names.{has_name}
use Rattle.sc_json.specs.Hex.{utf8_of}
use Rattle.sc_json.specs.Pieces.{piece_of}
use Rattle.sc_json.specs.Numbers.{next_part, behind_whole, is_whole}

abbrev pub at : List Frame → Mode → State
at stack mode = record { stack = stack; mode = mode }

-- a limit that is broken, and where
pub data Limit : Type 0 where
  double : ℕ → Limit
  deep : ℕ → Limit
  wide : ℕ → Limit

pub record Move : Type 0 where
  pub next : Option State
  pub breaks : Option Limit

abbrev pub goes : State → Move
goes s = record { next = Some s; breaks = None }

abbrev pub refused : Move
refused = record { next = None; breaks = None }

-- a list or an object begins at this place
abbrev pub nested : List Frame → Frame → Mode → ℕ → Move
nested k frame mode n = record { next = Some (at (frame ∷ k) mode); breaks = if nat_le 64 (length k) then Some (deep n) else None }

-- the first byte of a number or a word
abbrev pub scalar_of : List Frame → ℕ → ℕ → Option State
scalar_of k n b =
    if b == 45 then Some (at k (Number parts.Minus (b ∷ []) n)) else
    (if b == 48 then Some (at k (Number parts.Zero (b ∷ []) n)) else
    (if nat_le 49 b && nat_le b 57 then Some (at k (Number parts.Whole (b ∷ []) n)) else
    (if b == 116 then Some (at k (Word T)) else
    (if b == 102 then Some (at k (Word F)) else
    (if b == 110 then Some (at k (Word N)) else None)))))

abbrev pub plain : Option State → Move
plain o = record { next = o; breaks = None }

abbrev pub begin_of : List Frame → ℕ → ℕ → Move
begin_of k n b =
    if is_blank_byte b then goes (at k Value) else
    (if b == 34 then goes (at k (Quoted false pieces.Plain [] n)) else
    (if b == 91 then nested k (frames.List []) First n else
    (if b == 123 then nested k (frames.Object []) FirstName n else plain (scalar_of k n b))))

-- a list or an object with nothing in it ends
abbrev pub close_list_of : List Frame → Option State
close_list_of (frames.List xs ∷ k) = Some (at k (After (trees.List xs)))
close_list_of _ = None

abbrev pub close_object_of : List Frame → Option State
close_object_of (frames.Object ms ∷ k) = Some (at k (After (trees.Object ms)))
close_object_of _ = None

abbrev pub first_of : List Frame → ℕ → ℕ → Move
first_of k n b =
    if is_blank_byte b then goes (at k First) else
    (if b == 93 then plain (close_list_of k) else begin_of k n b)

abbrev pub name_of : List Frame → ℕ → ℕ → Option State
name_of k n b =
    if is_blank_byte b then Some (at k Name) else
    (if b == 34 then Some (at k (Quoted true pieces.Plain [] n)) else None)

abbrev pub first_name_of : List Frame → ℕ → ℕ → Option State
first_name_of k n b =
    if is_blank_byte b then Some (at k FirstName) else
    (if b == 125 then close_object_of k else name_of k n b)

abbrev pub colon_of : List Frame → ℕ → Option State
colon_of k b =
    if is_blank_byte b then Some (at k Colon) else
    (if b == 58 then Some (at k Value) else None)

-- a value is over, in a list or an object
abbrev pub element_of : List Frame → List Json → Json → ℕ → Option State
element_of k xs v b =
    if b == 44 then Some (at (frames.List (xs ++ v ∷ []) ∷ k) Value) else
    (if b == 93 then Some (at k (After (trees.List (xs ++ v ∷ [])))) else None)

abbrev pub member_of : List Frame → List Member → List ℕ → Json → ℕ → Option State
member_of k ms name v b =
    if b == 44 then Some (at (frames.Object (ms ++ roll-Member (record { name = name; value = v }) ∷ []) ∷ k) Name) else
    (if b == 125 then Some (at k (After (trees.Object (ms ++ roll-Member (record { name = name; value = v }) ∷ [])))) else None)

abbrev pub inner_of : List Frame → Json → ℕ → Option State
inner_of (frames.List xs ∷ k) v b = element_of k xs v b
inner_of (frames.Member ms name ∷ k) v b = member_of k ms name v b
inner_of _ v b = None

abbrev pub after_of : List Frame → Json → ℕ → Option State
after_of k v b = if is_blank_byte b then Some (at k (After v)) else inner_of k v b

-- more of a word
abbrev pub wanted_of : Letters → ℕ
wanted_of T = 114
wanted_of Tr = 117
wanted_of Tru = 101
wanted_of F = 97
wanted_of Fa = 108
wanted_of Fal = 115
wanted_of Fals = 101
wanted_of N = 117
wanted_of Nu = 108
wanted_of Nul = 108

abbrev pub with_letter : Letters → Mode
with_letter T = Word Tr
with_letter Tr = Word Tru
with_letter Tru = After (trees.Truth true)
with_letter F = Word Fa
with_letter Fa = Word Fal
with_letter Fal = Word Fals
with_letter Fals = After (trees.Truth false)
with_letter N = Word Nu
with_letter Nu = Word Nul
with_letter Nul = After trees.Null

abbrev pub word_of : List Frame → Letters → ℕ → Option State
word_of k so_far b = if b == wanted_of so_far then Some (at k (with_letter so_far)) else None

-- a whole number's value, and the fault where it is too wide
abbrev pub number_json : List ℕ → Option Json
number_json ds = if is_number ds then option_map_or (λ t. Some (trees.Number (record { literal = t; dec = number_of ds }))) (text_of ds) None else None

abbrev pub wide_of : List ℕ → ℕ → Option Limit
wide_of ds from = if is_wide ds then Some (wide from) else None

abbrev pub ended_value : Part → List ℕ → Option Json
ended_value part ds = if is_whole part then number_json ds else None

-- an unfinished number: the longest whole one is judged
abbrev pub unfinished_breaks : Part → List ℕ → ℕ → Option Limit
unfinished_breaks part ds from = option_map_or (λ c. wide_of (take (length ds - c) ds) from) (behind_whole part) None

abbrev pub ended_breaks : Part → List ℕ → ℕ → Option Limit
ended_breaks part ds from = if is_whole part then wide_of ds from else unfinished_breaks part ds from

abbrev pub ended_move : List Frame → Part → List ℕ → ℕ → ℕ → Move
ended_move k part ds from b = record { next = option_map_or (λ v. after_of k v b) (ended_value part ds) None; breaks = ended_breaks part ds from }

abbrev pub number_move : List Frame → Part → List ℕ → ℕ → ℕ → Move
number_move k part ds from b = option_map_or (λ p. goes (at k (Number p (ds ++ b ∷ []) from))) (next_part part b) (ended_move k part ds from b)

-- a name is over
abbrev pub named_of : List Frame → List ℕ → ℕ → Move
named_of (frames.Object ms ∷ k) name from = record { next = Some (at (frames.Member ms name ∷ k) Colon); breaks = if has_name ms name then Some (double from) else None }
named_of _ name from = refused

abbrev pub unquote_of : List Frame → Bool → List ℕ → ℕ → Move
unquote_of k is_name bytes from = option_map_or (λ t. if is_name then named_of k t from else goes (at k (After (trees.Text t)))) (text_of bytes) refused

abbrev pub with_added : List ℕ → Added → Option (List ℕ)
with_added bytes Nothing = Some bytes
with_added bytes (Byte b) = Some (bytes ++ b ∷ [])
with_added bytes (Scalar c) = if nat_le 1114112 c then None else Some (bytes ++ utf8_of c)

abbrev pub grown_of : List Frame → Bool → Piece → List ℕ → ℕ → ℕ → Option State
grown_of k is_name piece bytes from b = option_map_or (λ g. option_map_or (λ bs. Some (at k (Quoted is_name g.piece bs from))) (with_added bytes g.added) None) (piece_of piece b) None

abbrev pub is_plain : Piece → Bool
is_plain pieces.Plain = true
is_plain _ = false

abbrev pub quoted_move : List Frame → Bool → Piece → List ℕ → ℕ → ℕ → Move
quoted_move k is_name piece bytes from b =
    if is_plain piece then
    (if b == 34 then unquote_of k is_name bytes from else plain (grown_of k is_name piece bytes from b))
    else plain (grown_of k is_name piece bytes from b)

abbrev pub step_in : List Frame → Mode → ℕ → ℕ → Move
step_in k Value n b = begin_of k n b
step_in k First n b = first_of k n b
step_in k FirstName n b = plain (first_name_of k n b)
step_in k Name n b = plain (name_of k n b)
step_in k Colon n b = plain (colon_of k b)
step_in k (Word so_far) n b = plain (word_of k so_far b)
step_in k (Number part ds from) n b = number_move k part ds from b
step_in k (Quoted is_name piece bytes from) n b = quoted_move k is_name piece bytes from b
step_in k (After v) n b = plain (after_of k v b)

unfoldable pub step_of : State → ℕ → ℕ → Move
step_of s n b = step_in s.stack s.mode n b

-- the text ends
abbrev pub alone : List Frame → Option Json → Option Json
alone [] v = v
alone _ v = None

abbrev pub end_value_in : List Frame → Mode → Option Json
end_value_in k (Number part ds from) = alone k (ended_value part ds)
end_value_in k (After v) = alone k (Some v)
end_value_in k _ = None

abbrev pub end_breaks_in : Mode → Option Limit
end_breaks_in (Number part ds from) = ended_breaks part ds from
end_breaks_in _ = None

unfoldable pub end_value : State → Option Json
end_value s = end_value_in s.stack s.mode

unfoldable pub end_breaks : State → Option Limit
end_breaks s = end_breaks_in s.mode

-- the fault at a place
abbrev pub fault_of : ℕ → StepFault → JsonFault
fault_of n steps.Refused = faults.Syntax n
fault_of n (steps.Duplicate from) = faults.Duplicate from
fault_of n (steps.TooDeep from) = faults.TooDeep from
fault_of n (steps.TooWide from) = faults.NumberTooWide from
fault_of n steps.Memory = faults.OutOfMemory

abbrev pub limit_fault : Limit → JsonFault
limit_fault (double from) = faults.Duplicate from
limit_fault (deep from) = faults.TooDeep from
limit_fault (wide from) = faults.NumberTooWide from

abbrev pub unless : Option Limit → ℕ → Result Json JsonFault → Result Json JsonFault
unless None n read = read
unless (Some l) n read = Err (limit_fault l)

abbrev pub ended : ℕ → Option Json → Result Json JsonFault
ended n None = Err (faults.Syntax n)
ended n (Some v) = Ok v

-- the tree, or the first of all faults
unfoldable pub read_from : List ℕ → ℕ → State → Result Json JsonFault
read_from [] n s = unless (end_breaks s) n (ended n (end_value s))
read_from (b ∷ bs) n s = unless (step_of s n b).breaks n (option_map_or (read_from bs (n + 1)) (step_of s n b).next (Err (faults.Syntax n)))

abbrev pub start : State
start = at [] Value

abbrev pub read_of : List ℕ → Result Json JsonFault
read_of bs = read_from bs 0 start

-- ---- what code answers

abbrev pub Fails : {A : Type 0} → StepFault → Option A → Option Limit → Type 0
Fails steps.Memory next breaks = Unit {0}
Fails steps.Refused next breaks = (next ≡ None) × (breaks ≡ None)
Fails (steps.Duplicate n) next breaks = breaks ≡ Some (double n)
Fails (steps.TooDeep n) next breaks = breaks ≡ Some (deep n)
Fails (steps.TooWide n) next breaks = breaks ≡ Some (wide n)

-- the value, unless memory ran out or a limit is broken
abbrev pub Gives : {A : Type 0} → Result A StepFault → Option A → Option Limit → Type 0
Gives (Ok x) next breaks = (next ≡ Some x) × (breaks ≡ None)
Gives (Err e) next breaks = Fails e next breaks

abbrev pub Takes : Result State StepFault → Move → Type 0
Takes result move = Gives result move.next move.breaks

abbrev pub Reads : Result Json JsonFault → Result Json JsonFault → Type 0
Reads (Err faults.OutOfMemory) read = Unit {0}
Reads r read = read ≡ r

-- the mode that comes next, with what is open then
abbrev pub Turns : Result Mode StepFault → List Frame → Move → Type 0
Turns (Ok mode) k move = (move.next ≡ Some (at k mode)) × (move.breaks ≡ None)
Turns (Err e) k move = Fails e move.next move.breaks

-- the state that comes next
abbrev pub Steps : Result (Unit {0}) StepFault → State → Move → Type 0
Steps (Ok _) new move = (move.next ≡ Some new) × (move.breaks ≡ None)
Steps (Err e) new move = Fails e move.next move.breaks

-- where white space changes nothing
abbrev pub rests : Mode → Bool
rests (Word so_far) = false
rests (Number part ds from) = false
rests (Quoted is_name piece bytes from) = false
rests _ = true

-- bytes that change no more than what was read of a text, a number or white space: reading goes on behind n of them
abbrev pub RunsOn : List ℕ → ℕ → State → ℕ → State → Type 0
RunsOn bytes at old n new = (n ≤ length bytes) × (read_from bytes at old ≡ read_from (drop n bytes) (at + n) new)

-- what is read where this tree is spelled: it, unless a limit is broken or memory runs out
abbrev pub IsRead : Result Json JsonFault → Json → Type 0
IsRead (Ok tree) spelled = tree ≡ spelled
IsRead (Err (faults.Syntax n)) spelled = ⊥
IsRead (Err (faults.NotUtf8 n)) spelled = ⊥
IsRead (Err (faults.Duplicate n)) spelled = Unit {0}
IsRead (Err (faults.TooDeep n)) spelled = Unit {0}
IsRead (Err (faults.NumberTooWide n)) spelled = Unit {0}
IsRead (Err faults.OutOfMemory) spelled = Unit {0}
