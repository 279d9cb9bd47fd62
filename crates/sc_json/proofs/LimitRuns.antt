-- How a run of the machine ends, and which limit it meets first.
use Rattle.std.proofs.Common.{◌≡◌, ◌⊎◌, inl, inr, ℕ, ◌+◌, ◌<◌, ◌≤◌, List, [], ◌∷◌, ◌++◌, length, Bool, true, false, cond, eqb, Option, Some, None, Result, Ok, Err, refl, sym, ap, subst, ◌∙◌, arith, length-append}
use Rattle.std.specs.Option.{option_map_or}
use Rattle.std.proofs.lemmas.Bool.{cases_lt}
use Rattle.sc_json.specs.declared.tree.Json.{Json}
use Rattle.sc_json.specs.declared.state.State.{State}
use Rattle.sc_json.specs.declared.state.Frame.{Frame}
use Rattle.sc_json.specs.declared.state.Frame.TheVariants as frames
use Rattle.sc_json.specs.declared.state.Mode.{Mode}
use Rattle.sc_json.specs.declared.state.Mode.TheVariants.{Value, First, FirstName, Name, Colon, Word, Number, Quoted, After}
use Rattle.sc_json.specs.declared.state.Part.{Part}
use Rattle.sc_json.specs.declared.state.Part.TheVariants as parts
use Rattle.sc_json.specs.declared.state.Piece.TheVariants as pieces
use Rattle.sc_json.specs.declared.state.Letters.{Letters}
use Rattle.sc_json.specs.declared.state.Letters.TheVariants as letters
use Rattle.sc_json.specs.declared.quoted.Grown.{Grown}
use Rattle.sc_json.specs.declared.fault.JsonFault.{JsonFault}
use Rattle.sc_json.specs.declared.fault.JsonFault.TheVariants.{Syntax}
use Rattle.sc_json.specs.Machine.{at, start, Limit, double, deep, wide, Move, goes, refused, plain, nested, is_blank_byte, step_in, step_of, end_value, end_breaks, end_breaks_in, read_from, ended, unless, limit_fault, scalar_of, begin_of, close_list_of, close_object_of, inner_of, after_of, with_letter, ended_move, ended_breaks, wide_of, named_of, with_added, is_plain, ended_value, unquote_of}
use Rattle.sc_json.specs.Numbers.{behind_whole, next_part}
use Rattle.sc_json.specs.Pieces.{piece_of}
use Rattle.sc_base.specs.Text.{text_of}
use Rattle.sc_json.specs.declared.tree.Json.TheVariants as trees
use Rattle.sc_json.proofs.Steps.{Leads, stays, steps, leads_one}
use Rattle.sc_json.proofs.FrontRuns.{leads_cut}

-- a run on which no limit is broken
pub data Clean : List ℕ → ℕ → State → State → Type 0 where
  rests : (n : ℕ) (s : State) → Clean [] n s s
  moves : (b : ℕ) (bs : List ℕ) (n : ℕ) (s t u : State) → (step_of s n b).next ≡ Some t → (step_of s n b).breaks ≡ None → Clean bs (n + 1) t u → Clean (b ∷ bs) n s u

pub clean_leads : {bs : List ℕ} {n : ℕ} {s t : State} → Clean bs n s t → Leads bs n s t
clean_leads (rests n s) = stays n s
clean_leads (moves b bs n s t u e f c) = steps b bs n s t u e (clean_leads c)

-- the limit that the next byte breaks, or the end
abbrev pub BreaksAt : List ℕ → ℕ → State → Limit → Type 0
BreaksAt [] n t l = end_breaks t ≡ Some l
BreaksAt (b ∷ rest) n t l = (step_of t n b).breaks ≡ Some l

pub record Broken (bs : List ℕ) (n : ℕ) (s : State) (r : Result Json JsonFault) : Type 0 where
  pub x : List ℕ
  pub rest : List ℕ
  pub state : State
  pub limit : Limit
  pub is : bs ≡ x ++ rest
  pub clean : Clean x n s state
  pub breaks : BreaksAt rest (n + length x) state limit
  pub result : r ≡ Err (limit_fault limit)

pub record Refused (bs : List ℕ) (n : ℕ) (s : State) (r : Result Json JsonFault) : Type 0 where
  pub x : List ℕ
  pub byte : ℕ
  pub rest : List ℕ
  pub state : State
  pub is : bs ≡ x ++ byte ∷ rest
  pub clean : Clean x n s state
  pub stops : (step_of state (n + length x) byte).next ≡ None
  pub keeps : (step_of state (n + length x) byte).breaks ≡ None
  pub result : r ≡ Err (Syntax (n + length x))

pub record Short (bs : List ℕ) (n : ℕ) (s : State) (r : Result Json JsonFault) : Type 0 where
  pub state : State
  pub clean : Clean bs n s state
  pub stops : end_value state ≡ None
  pub keeps : end_breaks state ≡ None
  pub result : r ≡ Err (Syntax (n + length bs))

pub record Taken (bs : List ℕ) (n : ℕ) (s : State) (r : Result Json JsonFault) : Type 0 where
  pub state : State
  pub value : Json
  pub clean : Clean bs n s state
  pub gives : end_value state ≡ Some value
  pub keeps : end_breaks state ≡ None
  pub result : r ≡ Ok value

pub data Outcome (bs : List ℕ) (n : ℕ) (s : State) (r : Result Json JsonFault) : Type 0 where
  broken : Broken bs n s r → Outcome bs n s r
  refuses : Refused bs n s r → Outcome bs n s r
  short : Short bs n s r → Outcome bs n s r
  taken : Taken bs n s r → Outcome bs n s r

longer : (b : ℕ) (bs : List ℕ) (n : ℕ) (s t : State) (r : Result Json JsonFault) → (step_of s n b).next ≡ Some t → (step_of s n b).breaks ≡ None → Outcome bs (n + 1) t r → Outcome (b ∷ bs) n s r
longer b bs n s t r e f (broken o) =
    broken (record {
      x = b ∷ o.x;
      rest = o.rest;
      state = o.state;
      limit = o.limit;
      is = ap (λ (y : List ℕ). b ∷ y) o.is;
      clean = moves b o.x n s t o.state e f o.clean;
      breaks = subst (λ (i : ℕ). BreaksAt o.rest i o.state o.limit) (omega arith) o.breaks;
      result = o.result;
    })
longer b bs n s t r e f (refuses o) =
    let same : n + 1 + length o.x ≡ n + length (b ∷ o.x) = omega arith in
    refuses (record {
      x = b ∷ o.x;
      byte = o.byte;
      rest = o.rest;
      state = o.state;
      is = ap (λ (y : List ℕ). b ∷ y) o.is;
      clean = moves b o.x n s t o.state e f o.clean;
      stops = subst (λ (i : ℕ). (step_of o.state i o.byte).next ≡ None) same o.stops;
      keeps = subst (λ (i : ℕ). (step_of o.state i o.byte).breaks ≡ None) same o.keeps;
      result = subst (λ (i : ℕ). r ≡ Err (Syntax i)) same o.result;
    })
longer b bs n s t r e f (short o) =
    let same : n + 1 + length bs ≡ n + length (b ∷ bs) = omega arith in
    short (record { state = o.state; clean = moves b bs n s t o.state e f o.clean; stops = o.stops; keeps = o.keeps; result = subst (λ (i : ℕ). r ≡ Err (Syntax i)) same o.result })
longer b bs n s t r e f (taken o) = taken (record { state = o.state; value = o.value; clean = moves b bs n s t o.state e f o.clean; gives = o.gives; keeps = o.keeps; result = o.result })

at_end : (n : ℕ) (s : State) (o : Option Limit) (v : Option Json) → end_breaks s ≡ o → end_value s ≡ v → Outcome [] n s (unless o n (ended n v))
at_end n s (Some l) v e f = broken (record { x = []; rest = []; state = s; limit = l; is = refl; clean = rests n s; breaks = e; result = refl })
at_end n s None None e f = short (record { state = s; clean = rests n s; stops = f; keeps = e; result = ap (λ (i : ℕ). Err (Syntax i)) (omega arith) })
at_end n s None (Some v) e f = taken (record { state = s; value = v; clean = rests n s; gives = f; keeps = e; result = refl })

at_byte : (b : ℕ) (bs : List ℕ) (n : ℕ) (s : State) (o : Option Limit) (next : Option State) → (step_of s n b).breaks ≡ o → (step_of s n b).next ≡ next → ((t : State) → Outcome bs (n + 1) t (read_from bs (n + 1) t))
    → Outcome (b ∷ bs) n s (unless o n (option_map_or (read_from bs (n + 1)) next (Err (Syntax n))))
at_byte b bs n s (Some l) next e f later = broken (record { x = []; rest = b ∷ bs; state = s; limit = l; is = refl; clean = rests n s; breaks = subst (λ (i : ℕ). (step_of s i b).breaks ≡ Some l) (omega arith) e; result = refl })
at_byte b bs n s None None e f later =
    refuses (record { x = []; byte = b; rest = bs; state = s; is = refl; clean = rests n s; stops = subst (λ (i : ℕ). (step_of s i b).next ≡ None) (omega arith) f; keeps = subst (λ (i : ℕ). (step_of s i b).breaks ≡ None) (omega arith) e; result = ap (λ (i : ℕ). Err (Syntax i)) (omega arith) })
at_byte b bs n s None (Some t) e f later = longer b bs n s t _ f e (later t)

pub outcome : (bs : List ℕ) (n : ℕ) (s : State) → Outcome bs n s (read_from bs n s)
unfolding read_from
outcome [] n s = at_end n s (end_breaks s) (end_value s) refl refl
outcome (b ∷ bs) n s = at_byte b bs n s (step_of s n b).breaks (step_of s n b).next refl refl (λ t. outcome bs (n + 1) t)

-- ---- where a token begins

-- the place from which a text in quotes or a number is being read
abbrev pub from_of : Mode → Option ℕ
from_of (Number part ds from) = Some from
from_of (Quoted is_name piece bytes from) = Some from
from_of _ = None

abbrev pub limit_place : Limit → ℕ
limit_place (double n) = n
limit_place (deep n) = n
limit_place (wide n) = n

-- a step that begins no token but at this place
record TracksNext (m : Option ℕ) (n : ℕ) (next : Option State) : Type 0 where
  from : (t : State) (p : ℕ) → next ≡ Some t → from_of t.mode ≡ Some p → (m ≡ Some p) ⊎ (p ≡ n)

record TracksBreak (m : Option ℕ) (n : ℕ) (breaks : Option Limit) : Type 0 where
  place : (l : Limit) → breaks ≡ Some l → (m ≡ Some (limit_place l)) ⊎ ((m ≡ None) × (limit_place l ≡ n))

record Tracks (m : Option ℕ) (n : ℕ) (move : Move) : Type 0 where
  next : TracksNext m n move.next
  breaks : TracksBreak m n move.breaks

some_is : {A : Type 0} (x y : A) → Some x ≡ Some y → x ≡ y
some_is x y e = cc

nothing_next : (m : Option ℕ) (n : ℕ) → TracksNext m n None
nothing_next m n = record { from = λ t p e f. absurd cc }

nothing_breaks : (m : Option ℕ) (n : ℕ) → TracksBreak m n None
nothing_breaks m n = record { place = λ l e. absurd cc }

quiet : (m : Option ℕ) (n : ℕ) (k : List Frame) (mode : Mode) → from_of mode ≡ None → TracksNext m n (Some (at k mode))
quiet m n k mode h = record { from = λ t p e f. let same : from_of mode ≡ from_of t.mode = ap (λ (s : State). from_of s.mode) (some_is (at k mode) t e) in absurd cc }

begun : (m : Option ℕ) (n : ℕ) (k : List Frame) (mode : Mode) → from_of mode ≡ Some n → TracksNext m n (Some (at k mode))
begun m n k mode h = record { from = λ t p e f. let same : from_of mode ≡ from_of t.mode = ap (λ (s : State). from_of s.mode) (some_is (at k mode) t e) in inr (some_is p n cc) }

kept : (m : Option ℕ) (n : ℕ) (k : List Frame) (mode : Mode) → m ≡ from_of mode → TracksNext m n (Some (at k mode))
kept m n k mode h = record { from = λ t p e f. let same : from_of mode ≡ from_of t.mode = ap (λ (s : State). from_of s.mode) (some_is (at k mode) t e) in inl (h ∙ same ∙ f) }

next_either : (m : Option ℕ) (n : ℕ) (b : Bool) (x y : Option State) → TracksNext m n x → TracksNext m n y → TracksNext m n (cond b x y)
next_either m n true x y p q = p
next_either m n false x y p q = q

either : (m : Option ℕ) (n : ℕ) (b : Bool) (x y : Move) → Tracks m n x → Tracks m n y → Tracks m n (cond b x y)
either m n true x y p q = p
either m n false x y p q = q

break_either : (m : Option ℕ) (n : ℕ) (b : Bool) (x y : Option Limit) → TracksBreak m n x → TracksBreak m n y → TracksBreak m n (cond b x y)
break_either m n true x y p q = p
break_either m n false x y p q = q

next_maybe : {A : Type 0} (m : Option ℕ) (n : ℕ) (f : A → Option State) (o : Option A) (x : Option State) → ((a : A) → TracksNext m n (f a)) → TracksNext m n x → TracksNext m n (option_map_or f o x)
next_maybe m n f None x p q = q
next_maybe m n f (Some a) x p q = p a

maybe : {A : Type 0} (m : Option ℕ) (n : ℕ) (f : A → Move) (o : Option A) (x : Move) → ((a : A) → Tracks m n (f a)) → Tracks m n x → Tracks m n (option_map_or f o x)
maybe m n f None x p q = q
maybe m n f (Some a) x p q = p a

break_maybe : {A : Type 0} (m : Option ℕ) (n : ℕ) (f : A → Option Limit) (o : Option A) (x : Option Limit) → ((a : A) → TracksBreak m n (f a)) → TracksBreak m n x → TracksBreak m n (option_map_or f o x)
break_maybe m n f None x p q = q
break_maybe m n f (Some a) x p q = p a

alone : (m : Option ℕ) (n : ℕ) (o : Option State) → TracksNext m n o → Tracks m n (plain o)
alone m n o h = record { next = h; breaks = nothing_breaks m n }

limit_here : (n : ℕ) (l : Limit) → limit_place l ≡ n → TracksBreak None n (Some l)
limit_here n l h = record { place = λ q e. inr (refl, ap limit_place (some_is q l (sym e)) ∙ h) }

limit_from : (from n : ℕ) (l : Limit) → limit_place l ≡ from → TracksBreak (Some from) n (Some l)
limit_from from n l h = record { place = λ q e. inl (ap (λ (i : ℕ). Some i) (sym (ap limit_place (some_is q l (sym e)) ∙ h))) }

nested_tracks : (k : List Frame) (frame : Frame) (mode : Mode) (n : ℕ) → from_of mode ≡ None → Tracks None n (nested k frame mode n)
nested_tracks k frame mode n h = record { next = quiet None n (frame ∷ k) mode h; breaks = break_either None n _ (Some (deep n)) None (limit_here n (deep n) refl) (nothing_breaks None n) }

scalar_tracks : (k : List Frame) (n b : ℕ) → TracksNext None n (scalar_of k n b)
scalar_tracks k n b =
    next_either None n _ _ _ (begun None n k (Number parts.Minus (b ∷ []) n) refl)
    (next_either None n _ _ _ (begun None n k (Number parts.Zero (b ∷ []) n) refl)
    (next_either None n _ _ _ (begun None n k (Number parts.Whole (b ∷ []) n) refl)
    (next_either None n _ _ _ (quiet None n k (Word letters.T) refl)
    (next_either None n _ _ _ (quiet None n k (Word letters.F) refl)
    (next_either None n _ _ _ (quiet None n k (Word letters.N) refl) (nothing_next None n))))))

begin_tracks : (k : List Frame) (n b : ℕ) → Tracks None n (begin_of k n b)
begin_tracks k n b =
    either None n _ _ _ (alone None n _ (quiet None n k Value refl))
    (either None n _ _ _ (alone None n _ (begun None n k (Quoted false pieces.Plain [] n) refl))
    (either None n _ _ _ (nested_tracks k (frames.List []) First n refl)
    (either None n _ _ _ (nested_tracks k (frames.Object []) FirstName n refl) (alone None n _ (scalar_tracks k n b)))))

close_list_tracks : (n : ℕ) (k : List Frame) → TracksNext None n (close_list_of k)
close_list_tracks n [] = nothing_next None n
close_list_tracks n (frames.List xs ∷ k) = quiet None n k _ refl
close_list_tracks n (frames.Object ms ∷ k) = nothing_next None n
close_list_tracks n (frames.Member ms name ∷ k) = nothing_next None n

close_object_tracks : (n : ℕ) (k : List Frame) → TracksNext None n (close_object_of k)
close_object_tracks n [] = nothing_next None n
close_object_tracks n (frames.List xs ∷ k) = nothing_next None n
close_object_tracks n (frames.Object ms ∷ k) = quiet None n k _ refl
close_object_tracks n (frames.Member ms name ∷ k) = nothing_next None n

name_tracks : (k : List Frame) (n b : ℕ) → TracksNext None n (cond {A = Option State} (is_blank_byte b) (Some (at k Name)) (cond {A = Option State} (eqb b 34) (Some (at k (Quoted true pieces.Plain [] n))) None))
name_tracks k n b = next_either None n _ _ _ (quiet None n k Name refl) (next_either None n _ _ _ (begun None n k (Quoted true pieces.Plain [] n) refl) (nothing_next None n))

inner_tracks : (m : Option ℕ) (n : ℕ) (k : List Frame) (v : Json) (b : ℕ) → TracksNext m n (inner_of k v b)
inner_tracks m n [] v b = nothing_next m n
inner_tracks m n (frames.List xs ∷ k) v b = next_either m n _ _ _ (quiet m n _ Value refl) (next_either m n _ _ _ (quiet m n k _ refl) (nothing_next m n))
inner_tracks m n (frames.Object ms ∷ k) v b = nothing_next m n
inner_tracks m n (frames.Member ms name ∷ k) v b = next_either m n _ _ _ (quiet m n _ Name refl) (next_either m n _ _ _ (quiet m n k _ refl) (nothing_next m n))

after_tracks : (m : Option ℕ) (n : ℕ) (k : List Frame) (v : Json) (b : ℕ) → TracksNext m n (after_of k v b)
after_tracks m n k v b = next_either m n _ _ _ (quiet m n k (After v) refl) (inner_tracks m n k v b)

letter_from : (x : Letters) → from_of (with_letter x) ≡ None
letter_from letters.T = refl
letter_from letters.Tr = refl
letter_from letters.Tru = refl
letter_from letters.F = refl
letter_from letters.Fa = refl
letter_from letters.Fal = refl
letter_from letters.Fals = refl
letter_from letters.N = refl
letter_from letters.Nu = refl
letter_from letters.Nul = refl

wide_tracks : (ds : List ℕ) (from n : ℕ) → TracksBreak (Some from) n (wide_of ds from)
wide_tracks ds from n = break_either (Some from) n _ _ _ (limit_from from n (wide from) refl) (nothing_breaks (Some from) n)

ended_tracks : (part : Part) (ds : List ℕ) (from n : ℕ) → TracksBreak (Some from) n (ended_breaks part ds from)
ended_tracks part ds from n = break_either (Some from) n _ _ _ (wide_tracks ds from n) (break_maybe (Some from) n _ (behind_whole part) None (λ c. wide_tracks _ from n) (nothing_breaks (Some from) n))

named_tracks : (k : List Frame) (name : List ℕ) (from n : ℕ) → Tracks (Some from) n (named_of k name from)
named_tracks [] name from n = alone (Some from) n None (nothing_next (Some from) n)
named_tracks (frames.List xs ∷ k) name from n = alone (Some from) n None (nothing_next (Some from) n)
named_tracks (frames.Object ms ∷ k) name from n = record { next = quiet (Some from) n _ Colon refl; breaks = break_either (Some from) n _ _ _ (limit_from from n (double from) refl) (nothing_breaks (Some from) n) }
named_tracks (frames.Member ms x ∷ k) name from n = alone (Some from) n None (nothing_next (Some from) n)

unquote_tracks : (k : List Frame) (is_name : Bool) (bytes : List ℕ) (from n : ℕ) → Tracks (Some from) n (unquote_of k is_name bytes from)
unquote_tracks k is_name bytes from n =
    maybe (Some from) n (λ (t : List ℕ). cond {A = Move} is_name (named_of k t from) (goes (at k (After (trees.Text t))))) (text_of bytes) refused (λ t. either (Some from) n is_name _ _ (named_tracks k t from n) (alone (Some from) n _ (quiet (Some from) n k (After (trees.Text t)) refl))) (alone (Some from) n None (nothing_next (Some from) n))

grown_tracks : (k : List Frame) (is_name : Bool) (o : Option Grown) (bytes : List ℕ) (from n : ℕ) → TracksNext (Some from) n (option_map_or (λ g. option_map_or (λ bs. Some (at k (Quoted is_name g.piece bs from))) (with_added bytes g.added) None) o None)
grown_tracks k is_name o bytes from n = next_maybe (Some from) n _ o None (λ g. next_maybe (Some from) n _ (with_added bytes g.added) None (λ bs. kept (Some from) n k (Quoted is_name g.piece bs from) refl) (nothing_next (Some from) n)) (nothing_next (Some from) n)

mode_tracks : (k : List Frame) (mode : Mode) (n b : ℕ) → Tracks (from_of mode) n (step_in k mode n b)
mode_tracks k Value n b = begin_tracks k n b
mode_tracks k First n b = either None n _ _ _ (alone None n _ (quiet None n k First refl)) (either None n _ _ _ (alone None n _ (close_list_tracks n k)) (begin_tracks k n b))
mode_tracks k FirstName n b = alone None n _ (next_either None n _ _ _ (quiet None n k FirstName refl) (next_either None n _ _ _ (close_object_tracks n k) (name_tracks k n b)))
mode_tracks k Name n b = alone None n _ (name_tracks k n b)
mode_tracks k Colon n b = alone None n _ (next_either None n _ _ _ (quiet None n k Colon refl) (next_either None n _ _ _ (quiet None n k Value refl) (nothing_next None n)))
mode_tracks k (Word so_far) n b = alone None n _ (next_either None n _ _ _ (quiet None n k (with_letter so_far) (letter_from so_far)) (nothing_next None n))
mode_tracks k (Number part ds from) n b =
    maybe (Some from) n (λ (p : Part). goes (at k (Number p (ds ++ b ∷ []) from))) (next_part part b) (ended_move k part ds from b) (λ p. alone (Some from) n _ (kept (Some from) n k (Number p (ds ++ b ∷ []) from) refl))
    (record { next = next_maybe (Some from) n (λ (v : Json). after_of k v b) (ended_value part ds) None (λ v. after_tracks (Some from) n k v b) (nothing_next (Some from) n); breaks = ended_tracks part ds from n })
mode_tracks k (Quoted is_name piece bytes from) n b =
    either (Some from) n (is_plain piece) _ _ (either (Some from) n (eqb b 34) _ _ (unquote_tracks k is_name bytes from n) (alone (Some from) n _ (grown_tracks k is_name (piece_of piece b) bytes from n)))
    (alone (Some from) n _ (grown_tracks k is_name (piece_of piece b) bytes from n))
mode_tracks k (After v) n b = alone None n _ (after_tracks None n k v b)

step_tracks : (s : State) (n b : ℕ) → Tracks (from_of s.mode) n (step_of s n b)
unfolding step_of
step_tracks s n b = mode_tracks s.stack s.mode n b

-- behind a number no token goes on that began before
ended_next : (k : List Frame) (q : Part) (ds : List ℕ) (from n b : ℕ) → next_part q b ≡ None → (step_of (at k (Number q ds from)) n b).next ≡ option_map_or (λ v. after_of k v b) (ended_value q ds) None
unfolding step_of
ended_next k q ds from n b h = rw h refl

pub ended_leaves : (k : List Frame) (q : Part) (ds : List ℕ) (from n b : ℕ) (t : State) (p : ℕ) → next_part q b ≡ None → (step_of (at k (Number q ds from)) n b).next ≡ Some t → from_of t.mode ≡ Some p → p ≡ n
ended_leaves k q ds from n b t p h e f = elim ((next_maybe None n (λ (v : Json). after_of k v b) (ended_value q ds) None (λ v. after_tracks None n k v b) (nothing_next None n)).from t p (sym (ended_next k q ds from n b h) ∙ e) f) [
  | inl x ↦ absurd cc
  | inr x ↦ x
]

-- ---- the place of a limit

-- a token that is being read began before here
token_before : {bs : List ℕ} {n : ℕ} {s t : State} → Leads bs n s t → ((p : ℕ) → from_of s.mode ≡ Some p → p < n) → (p : ℕ) → from_of t.mode ≡ Some p → p < n + length bs
token_before (stays n s) h p e = let lt = h p e in omega (arith, lt)
token_before (steps b bs n s t u e l) h p f =
    let next : (q : ℕ) → from_of t.mode ≡ Some q → q < n + 1 = λ q g. elim ((step_tracks s n b).next.from t q e g) [
      | inl x ↦ let lt = h q x in omega (arith, lt)
      | inr x ↦ omega (arith, x)
    ] in
    let lt = token_before l next p f in
    omega (arith, lt)

-- and was being read all the while
pub token_back : {bs : List ℕ} {n : ℕ} {s t : State} → Leads bs n s t → (p : ℕ) → p < n → from_of t.mode ≡ Some p → from_of s.mode ≡ Some p
token_back (stays n s) p lt e = e
token_back (steps b bs n s t u e l) p lt f = elim ((step_tracks s n b).next.from t p e (token_back l p (omega (arith, lt)) f)) [
  | inl x ↦ x
  | inr x ↦ absurd (omega (arith, x, lt))
]

end_tracks : (m : Mode) (n : ℕ) → TracksBreak (from_of m) n (end_breaks_in m)
end_tracks Value n = nothing_breaks None n
end_tracks First n = nothing_breaks None n
end_tracks FirstName n = nothing_breaks None n
end_tracks Name n = nothing_breaks None n
end_tracks Colon n = nothing_breaks None n
end_tracks (Word x) n = nothing_breaks None n
end_tracks (Number part ds from) n = ended_tracks part ds from n
end_tracks (Quoted is_name piece bytes from) n = nothing_breaks (Some from) n
end_tracks (After v) n = nothing_breaks None n

break_place : (rest : List ℕ) (n : ℕ) (t : State) (l : Limit) → BreaksAt rest n t l → (from_of t.mode ≡ Some (limit_place l)) ⊎ ((from_of t.mode ≡ None) × (limit_place l ≡ n))
unfolding end_breaks
break_place [] n t l e = (end_tracks t.mode n).place l e
break_place (b ∷ rest) n t l e = (step_tracks t n b).breaks.place l e

no_token : (p : ℕ) → from_of start.mode ≡ Some p → p < 0
no_token p e = absurd cc

-- no limit is met before its place
pub break_after : (x rest : List ℕ) (t : State) (l : Limit) → Leads x 0 start t → BreaksAt rest (length x) t l → limit_place l ≤ length x
break_after x rest t l leads e = elim (break_place rest (length x) t l e) [
  | inl f ↦ let lt = token_before leads no_token (limit_place l) f in omega (arith, lt)
  | inr f ↦ omega (arith, f.1)
]

-- two cuts of the same bytes
pub data Overlap (x rest y others : List ℕ) : Type 0 where
  past : (z : List ℕ) → y ≡ x ++ z → rest ≡ z ++ others → Overlap x rest y others
  within : (b : ℕ) (z : List ℕ) → x ≡ y ++ b ∷ z → others ≡ b ∷ (z ++ rest) → Overlap x rest y others

pub overlap : (x rest y others : List ℕ) → x ++ rest ≡ y ++ others → Overlap x rest y others
overlap [] rest y others e = past y refl e
overlap (b ∷ x) rest [] others e = within b x refl (sym e)
overlap (b ∷ x) rest (c ∷ y) others e =
    let same : b ≡ c = cc in
    elim (overlap x rest y others (cons_tail b c (x ++ rest) (y ++ others) e)) [
      | past z f g ↦ past z (subst (λ (i : ℕ). i ∷ y ≡ b ∷ (x ++ z)) same (ap (λ (w : List ℕ). b ∷ w) f)) g
      | within d z f g ↦ within d z (subst (λ (i : ℕ). b ∷ x ≡ i ∷ (y ++ d ∷ z)) same (ap (λ (w : List ℕ). b ∷ w) f)) g
    ]
  where
    cons_tail : (b c : ℕ) (xs ys : List ℕ) → b ∷ xs ≡ c ∷ ys → xs ≡ ys
    cons_tail b c xs ys e = cc

-- a limit that the bytes break, met behind `x`
pub record Hit (bytes : List ℕ) (l : Limit) : Type 0 where
  pub x : List ℕ
  pub rest : List ℕ
  pub state : State
  pub is : bytes ≡ x ++ rest
  pub leads : Leads x 0 start state
  pub breaks : BreaksAt rest (length x) state l

-- what was read without breaking a limit lies before it
pub record Ahead (x rest : List ℕ) (t : State) (l : Limit) (met : ℕ) : Type 0 where
  pub z : List ℕ
  pub others : List ℕ
  pub state : State
  pub is : rest ≡ z ++ others
  pub leads : Leads z (length x) t state
  pub breaks : BreaksAt others (length x + length z) state l
  pub met_at : met ≡ length x + length z

clean_cut : (y : List ℕ) (b : ℕ) (z : List ℕ) (n : ℕ) (s t u : State) → Clean (y ++ b ∷ z) n s t → Leads y n s u → (step_of u (n + length y) b).breaks ≡ None
clean_cut [] b z n s t u (moves _ _ _ _ s' _ e f c) (stays _ _) = subst (λ (i : ℕ). (step_of s i b).breaks ≡ None) (omega arith) f
clean_cut (d ∷ y) b z n s t u (moves _ _ _ _ s' _ e f c) (steps _ _ _ _ s'' _ g l) =
    let same : s'' ≡ s' = cc in
    subst (λ (i : ℕ). (step_of u i b).breaks ≡ None) (omega arith) (clean_cut y b z (n + 1) s' t u c (subst (λ (w : State). Leads y (n + 1) w u) same l))

pub ahead : (bytes x rest : List ℕ) (t : State) (l : Limit) → bytes ≡ x ++ rest → Clean x 0 start t → (h : Hit bytes l) → Ahead x rest t l (length h.x)
ahead bytes x rest t l is clean h = elim (overlap x rest h.x h.rest (sym is ∙ h.is)) [
  | past z f g ↦
      let r = leads_cut x z 0 start h.state (subst (λ (w : List ℕ). Leads w 0 start h.state) f h.leads) in
      let same : r.state ≡ t = leads_one r.leads (clean_leads clean) in
      record {
        z = z;
        others = h.rest;
        state = h.state;
        is = g;
        leads = subst (λ (w : State). Leads z (length x) w h.state) same (subst (λ (i : ℕ). Leads z i r.state h.state) (omega arith) r.goes_on);
        breaks = subst (λ (i : ℕ). BreaksAt h.rest i h.state l) (ap length f ∙ length-append x z) h.breaks;
        met_at = ap length f ∙ length-append x z;
      }
  | within b z f g ↦
      let none = subst (λ (i : ℕ). (step_of h.state i b).breaks ≡ None) (omega arith) (clean_cut h.x b z 0 start t h.state (subst (λ (w : List ℕ). Clean w 0 start t) f clean) h.leads) in
      let some : BreaksAt (b ∷ (z ++ rest)) (length h.x) h.state l = subst (λ (w : List ℕ). BreaksAt w (length h.x) h.state l) g h.breaks in
      absurd (differ (step_of h.state (length h.x) b).breaks l none some)
]
  where
    differ : (o : Option Limit) (l : Limit) → o ≡ None → o ≡ Some l → ⊥
    differ o l e f = absurd cc

-- the first limit that is met has the least place
pub least : (bytes x rest : List ℕ) (t : State) (l other : Limit) → bytes ≡ x ++ rest → Clean x 0 start t → BreaksAt rest (length x) t l → Hit bytes other → limit_place l ≤ limit_place other
least bytes x rest t l other is clean e h =
    let a = ahead bytes x rest t other is clean h in
    let le = break_after x rest t l (clean_leads clean) e in
    elim (break_place a.others (length x + length a.z) a.state other a.breaks) [
      | inr f ↦ omega (arith, f.1, le)
      | inl f ↦ elim (cases_lt (limit_place other) (length x)) [
        | inr ge ↦ omega (arith, ge, le)
        | inl lt ↦ let g = token_back a.leads (limit_place other) lt f in elim (break_place rest (length x) t l e) [
          | inl i ↦ let same : limit_place l ≡ limit_place other = some_is (limit_place l) (limit_place other) (sym i ∙ g) in omega (arith, same)
          | inr i ↦ absurd (differ (from_of t.mode) (limit_place other) i.0 g)
        ]
      ]
    ]
  where
    differ : (o : Option ℕ) (p : ℕ) → o ≡ None → o ≡ Some p → ⊥
    differ o p e f = absurd cc
