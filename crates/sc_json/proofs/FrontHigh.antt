-- A byte past ASCII is taken within a text in quotes alone, where it is never refused.
use Rattle.std.proofs.Common.{◌≡◌, ℕ, ◌<◌, ◌≤◌, List, [], ◌∷◌, ◌++◌, Bool, true, false, eqb, leb, ltb, ◌&&◌, Option, Some, None, refl, sym, subst, ◌∙◌, arith}
use Rattle.std.specs.Option.{option_map_or}
use Rattle.std.proofs.lemmas.Bool.{ne_eqb}
use Rattle.std.proofs.lemmas.Bool.Decides.{nat_tests}
use Rattle.sc_json.specs.declared.tree.Json.{Json}
use Rattle.sc_json.specs.declared.state.State.{State}
use Rattle.sc_json.specs.declared.state.Frame.{Frame}
use Rattle.sc_json.specs.declared.state.Frame.TheVariants as frames
use Rattle.sc_json.specs.declared.state.Mode.{Mode}
use Rattle.sc_json.specs.declared.state.Mode.TheVariants.{Value, First, FirstName, Name, Colon, Word, Number, Quoted, After}
use Rattle.sc_json.specs.declared.state.Part.{Part}
use Rattle.sc_json.specs.declared.state.Part.TheVariants as parts
use Rattle.sc_json.specs.declared.state.Piece as pieces
use Rattle.sc_json.specs.declared.state.Piece.TheVariants.{Plain, Slash, Unit as Units, Unit1, Unit2, Unit3, Pair, PairSlash, Low, Low1, Low2, Low3}
use Rattle.sc_json.specs.declared.state.Letters.{Letters}
use Rattle.sc_json.specs.declared.state.Letters.TheVariants as letters
use Rattle.sc_json.specs.Hex.{hex_of}
use Rattle.sc_json.specs.Numbers.{next_part}
use Rattle.sc_json.specs.Pieces.{piece_of}
use Rattle.sc_json.specs.Characters.{is_blank_byte, is_digit_byte}
use Rattle.sc_json.specs.Machine.{at, step_in, step_of, begin_of, inner_of, after_of, ended_value, word_of}

ne : (b c : ℕ) → 128 ≤ b → c < 128 → eqb b c ≡ false
ne b c high low = ne_eqb b c (λ e. absurd (omega (arith, e, high, low)))

below : (b c : ℕ) → 128 ≤ b → c < 128 → leb b c ≡ false
below b c high low = grind (arith, nat_tests)

and_false : (p q : Bool) → q ≡ false → (p && q) ≡ false
and_false true q e = e
and_false false q e = refl

no_blank : (b : ℕ) → 128 ≤ b → is_blank_byte b ≡ false
no_blank b h = rw (ne b 32 h (omega arith), ne b 9 h (omega arith), ne b 10 h (omega arith), ne b 13 h (omega arith)) refl

no_digit : (b : ℕ) → 128 ≤ b → is_digit_byte b ≡ false
no_digit b h = and_false (leb 48 b) (leb b 57) (below b 57 h (omega arith))

no_hex : (b : ℕ) → 128 ≤ b → hex_of b ≡ None
no_hex b h = rw (and_false (leb 48 b) (leb b 57) (below b 57 h (omega arith)), and_false (leb 65 b) (leb b 70) (below b 70 h (omega arith)), and_false (leb 97 b) (leb b 102) (below b 102 h (omega arith))) refl

begin_refused : (k : List Frame) (n b : ℕ) → 128 ≤ b → (begin_of k n b).next ≡ None
begin_refused k n b h =
    rw (no_blank b h, ne b 34 h (omega arith), ne b 91 h (omega arith), ne b 123 h (omega arith), ne b 45 h (omega arith), ne b 48 h (omega arith), and_false (leb 49 b) (leb b 57) (below b 57 h (omega arith)), ne b 116 h (omega arith), ne b 102 h (omega arith), ne b 110 h (omega arith)) refl

first_refused : (k : List Frame) (n b : ℕ) → 128 ≤ b → (step_in k First n b).next ≡ None
first_refused k n b h =
    rw (no_blank b h, ne b 93 h (omega arith), ne b 34 h (omega arith), ne b 91 h (omega arith), ne b 123 h (omega arith), ne b 45 h (omega arith), ne b 48 h (omega arith), and_false (leb 49 b) (leb b 57) (below b 57 h (omega arith)), ne b 116 h (omega arith), ne b 102 h (omega arith), ne b 110 h (omega arith)) refl

inner_refused : (k : List Frame) (v : Json) (b : ℕ) → 128 ≤ b → inner_of k v b ≡ None
inner_refused [] v b h = refl
inner_refused (frames.List xs ∷ k) v b h = rw (ne b 44 h (omega arith), ne b 93 h (omega arith)) refl
inner_refused (frames.Object ms ∷ k) v b h = refl
inner_refused (frames.Member ms name ∷ k) v b h = rw (ne b 44 h (omega arith), ne b 125 h (omega arith)) refl

after_refused : (k : List Frame) (v : Json) (b : ℕ) → 128 ≤ b → after_of k v b ≡ None
after_refused k v b h = rw (no_blank b h, inner_refused k v b h) refl

word_refused : (x : Letters) (k : List Frame) (b : ℕ) → 128 ≤ b → word_of k x b ≡ None
word_refused letters.T k b h = rw (ne b 114 h (omega arith)) refl
word_refused letters.Tr k b h = rw (ne b 117 h (omega arith)) refl
word_refused letters.Tru k b h = rw (ne b 101 h (omega arith)) refl
word_refused letters.F k b h = rw (ne b 97 h (omega arith)) refl
word_refused letters.Fa k b h = rw (ne b 108 h (omega arith)) refl
word_refused letters.Fal k b h = rw (ne b 115 h (omega arith)) refl
word_refused letters.Fals k b h = rw (ne b 101 h (omega arith)) refl
word_refused letters.N k b h = rw (ne b 117 h (omega arith)) refl
word_refused letters.Nu k b h = rw (ne b 108 h (omega arith)) refl
word_refused letters.Nul k b h = rw (ne b 108 h (omega arith)) refl

part_refused : (p : Part) (b : ℕ) → 128 ≤ b → next_part p b ≡ None
part_refused parts.Minus b h = rw (ne b 48 h (omega arith), no_digit b h) refl
part_refused parts.Zero b h = rw (ne b 46 h (omega arith), ne b 101 h (omega arith), ne b 69 h (omega arith)) refl
part_refused parts.Whole b h = rw (no_digit b h, ne b 46 h (omega arith), ne b 101 h (omega arith), ne b 69 h (omega arith)) refl
part_refused parts.Point b h = rw (no_digit b h) refl
part_refused parts.Fraction b h = rw (no_digit b h, ne b 101 h (omega arith), ne b 69 h (omega arith)) refl
part_refused parts.Mark b h = rw (ne b 43 h (omega arith), ne b 45 h (omega arith), no_digit b h) refl
part_refused parts.Sign b h = rw (no_digit b h) refl
part_refused parts.Power b h = rw (no_digit b h) refl

mapped_none : {A B : Type 0} (f : A → Option B) (o : Option A) → ((a : A) → f a ≡ None) → option_map_or f o None ≡ None
mapped_none f None h = refl
mapped_none f (Some a) h = h a

number_refused : (k : List Frame) (part : Part) (ds : List ℕ) (from n b : ℕ) → 128 ≤ b → (step_in k (Number part ds from) n b).next ≡ None
number_refused k part ds from n b h = rw (part_refused part b h) (mapped_none (λ (v : Json). after_of k v b) (ended_value part ds) (λ v. after_refused k v b h))

piece_refused : (p : pieces.Piece) (b : ℕ) → (p ≡ Plain → ⊥) → 128 ≤ b → piece_of p b ≡ None
piece_refused Plain b no_plain h = absurd (no_plain refl)
piece_refused Slash b no_plain h = rw (ne b 34 h (omega arith), ne b 92 h (omega arith), ne b 47 h (omega arith), ne b 98 h (omega arith), ne b 102 h (omega arith), ne b 110 h (omega arith), ne b 114 h (omega arith), ne b 116 h (omega arith), ne b 117 h (omega arith)) refl
piece_refused Units b no_plain h = rw (no_hex b h) refl
piece_refused (Unit1 x) b no_plain h = rw (no_hex b h) refl
piece_refused (Unit2 x) b no_plain h = rw (no_hex b h) refl
piece_refused (Unit3 x) b no_plain h = rw (no_hex b h) refl
piece_refused (Pair x) b no_plain h = rw (ne b 92 h (omega arith)) refl
piece_refused (PairSlash x) b no_plain h = rw (ne b 117 h (omega arith)) refl
piece_refused (Low x) b no_plain h = rw (no_hex b h) refl
piece_refused (Low1 x) b no_plain h = rw (no_hex b h) refl
piece_refused (Low2 x y) b no_plain h = rw (no_hex b h) refl
piece_refused (Low3 x y) b no_plain h = rw (no_hex b h) refl

-- in the midst of a text, behind a whole escape or a byte that stands for itself
abbrev pub InText : Mode → Type 0
InText (Quoted is_name Plain bytes from) = Unit {0}
InText _ = ⊥

plain_taken : (k : List Frame) (is_name : Bool) (bytes : List ℕ) (from n b : ℕ) → 128 ≤ b → (step_in k (Quoted is_name Plain bytes from) n b).next ≡ Some (at k (Quoted is_name Plain (bytes ++ b ∷ []) from))
plain_taken k is_name bytes from n b h = rw (ne b 34 h (omega arith), ne b 92 h (omega arith), not_control b h) refl
  where
    not_control : (b : ℕ) → 128 ≤ b → ltb b 32 ≡ false
    not_control b h = grind (arith, nat_tests)

-- what a byte past ASCII does
record DoesHigh (mode : Mode) (next : Option State) : Type 0 where
  taken : InText mode → next ≡ None → ⊥
  stays : (t : State) → next ≡ Some t → InText t.mode

refuses : (mode : Mode) (next : Option State) → (InText mode → ⊥) → next ≡ None → DoesHigh mode next
refuses mode next no_text e = record { taken = λ h q. absurd (no_text h); stays = λ t q. absurd (none_some next t e q) }
  where
    none_some : (next : Option State) (t : State) → next ≡ None → next ≡ Some t → ⊥
    none_some next t e q = absurd cc

takes : (mode : Mode) (next : Option State) (t : State) → InText t.mode → next ≡ Some t → DoesHigh mode next
takes mode next t h e = record { taken = λ q r. absurd (none_some next t r e); stays = λ u q. to_text next t u h e q }
  where
    none_some : (next : Option State) (t : State) → next ≡ None → next ≡ Some t → ⊥
    none_some next t e q = absurd cc

    some_is : (t u : State) → Some t ≡ Some u → t ≡ u
    some_is t u e = cc

    to_text : (next : Option State) (t u : State) → InText t.mode → next ≡ Some t → next ≡ Some u → InText u.mode
    to_text next t u h e q = subst (λ (s : State). InText s.mode) (some_is t u (sym e ∙ q)) h

quoted_high : (k : List Frame) (is_name : Bool) (p : pieces.Piece) (bytes : List ℕ) (from n b : ℕ) → 128 ≤ b → DoesHigh (Quoted is_name p bytes from) (step_in k (Quoted is_name p bytes from) n b).next
quoted_high k is_name Plain bytes from n b h = takes _ _ (at k (Quoted is_name Plain (bytes ++ b ∷ []) from)) tt (plain_taken k is_name bytes from n b h)
quoted_high k is_name Slash bytes from n b h = refuses _ _ (λ q. q) (rw (piece_refused Slash b (λ q. absurd cc) h) refl)
quoted_high k is_name Units bytes from n b h = refuses _ _ (λ q. q) (rw (piece_refused Units b (λ q. absurd cc) h) refl)
quoted_high k is_name (Unit1 x) bytes from n b h = refuses _ _ (λ q. q) (rw (piece_refused (Unit1 x) b (λ q. absurd cc) h) refl)
quoted_high k is_name (Unit2 x) bytes from n b h = refuses _ _ (λ q. q) (rw (piece_refused (Unit2 x) b (λ q. absurd cc) h) refl)
quoted_high k is_name (Unit3 x) bytes from n b h = refuses _ _ (λ q. q) (rw (piece_refused (Unit3 x) b (λ q. absurd cc) h) refl)
quoted_high k is_name (Pair x) bytes from n b h = refuses _ _ (λ q. q) (rw (piece_refused (Pair x) b (λ q. absurd cc) h) refl)
quoted_high k is_name (PairSlash x) bytes from n b h = refuses _ _ (λ q. q) (rw (piece_refused (PairSlash x) b (λ q. absurd cc) h) refl)
quoted_high k is_name (Low x) bytes from n b h = refuses _ _ (λ q. q) (rw (piece_refused (Low x) b (λ q. absurd cc) h) refl)
quoted_high k is_name (Low1 x) bytes from n b h = refuses _ _ (λ q. q) (rw (piece_refused (Low1 x) b (λ q. absurd cc) h) refl)
quoted_high k is_name (Low2 x y) bytes from n b h = refuses _ _ (λ q. q) (rw (piece_refused (Low2 x y) b (λ q. absurd cc) h) refl)
quoted_high k is_name (Low3 x y) bytes from n b h = refuses _ _ (λ q. q) (rw (piece_refused (Low3 x y) b (λ q. absurd cc) h) refl)

mode_high : (k : List Frame) (mode : Mode) (n b : ℕ) → 128 ≤ b → DoesHigh mode (step_in k mode n b).next
mode_high k Value n b h = refuses Value _ (λ q. q) (begin_refused k n b h)
mode_high k First n b h = refuses First _ (λ q. q) (first_refused k n b h)
mode_high k FirstName n b h = refuses FirstName _ (λ q. q) (rw (no_blank b h, ne b 125 h (omega arith), ne b 34 h (omega arith)) refl)
mode_high k Name n b h = refuses Name _ (λ q. q) (rw (no_blank b h, ne b 34 h (omega arith)) refl)
mode_high k Colon n b h = refuses Colon _ (λ q. q) (rw (no_blank b h, ne b 58 h (omega arith)) refl)
mode_high k (Word x) n b h = refuses (Word x) _ (λ q. q) (word_refused x k b h)
mode_high k (Number part ds from) n b h = refuses (Number part ds from) _ (λ q. q) (number_refused k part ds from n b h)
mode_high k (Quoted is_name p bytes from) n b h = quoted_high k is_name p bytes from n b h
mode_high k (After v) n b h = refuses (After v) _ (λ q. q) (after_refused k v b h)

pub high_taken : (s : State) (n b : ℕ) → 128 ≤ b → InText s.mode → (step_of s n b).next ≡ None → ⊥
unfolding step_of
high_taken s n b h = (mode_high s.stack s.mode n b h).taken

pub high_stays : (s : State) (n b : ℕ) (t : State) → 128 ≤ b → (step_of s n b).next ≡ Some t → InText t.mode
unfolding step_of
high_stays s n b t h = (mode_high s.stack s.mode n b h).stays t
