-- What a subcommand makes of its words.
use Rattle.std.proofs.Common.{◌≡◌, ℕ, List, [], ◌∷◌, zero, suc, codes, Option, Some, None, true, false, refl}
use Rattle.clap.specs.Words.{Shape, Rule, Text, built, first_of, Row, Kinds}
use Rattle.clap.specs.Walk.{Held, Walk, idle, value, nothing_held, walked, rows_after, word_met, to_positional, arg_by_index, positional_held}
use Rattle.clap.specs.Faults.{level_fault, is_simple_and_free, turn_fault, word_fault, step_fault, walk_fault, defaults_fault}
use Rattle.clap.specs.declared.error.kind.ErrorKind.TheVariants as kind
use Rattle.clap.proofs.OnLiterals.{clap_on_literals}
use Rattle.sc_words.specs.Forms.{IsPlainWord, page, stacd}

pub simple : is_simple_and_free stacd ≡ true
unfolding clap_on_literals
simple = refl

-- ---- a word that is no flag

abbrev pub at_place : Held → ℕ → Walk
at_place h pos = record { held = h; waiting = idle; position = pos; is_trailing = false; stopped = None }

word_plain : (c : List Rule) (pos : ℕ) (word : Text) (h : Held) → IsPlainWord word → word_met c [] false idle pos word h ≡ (h, value)
word_plain c pos [] h p = refl
word_plain c pos (x ∷ t) h p = rw p (rw p refl)

fault_plain : (s : Shape) (word : Text) (h : Held) → IsPlainWord word → word_fault s [] false idle word h ≡ []
fault_plain s [] h p = refl
fault_plain s (x ∷ t) h p = rw p (rw p refl)

turn_plain : (s : Shape) (h : Held) (pos : ℕ) (word : Text) → IsPlainWord word → turn_fault s [] (at_place h pos) word ≡ step_fault s pos h value
turn_plain s h pos [] p = refl
turn_plain s h pos (x ∷ t) p = rw p (rw p refl)

walked_plain : (c : List Rule) (h : Held) (pos : ℕ) (word : Text) → IsPlainWord word
    → walked c [] (at_place h pos) word ≡ to_positional c (arg_by_index c pos) word (at_place h pos) h
unfolding walked
walked_plain c h pos [] p = refl
walked_plain c h pos (x ∷ t) p = rw p (rw p refl)

-- ---- the subcommands

abbrev pub at : List Shape → ℕ → Shape
at [] n = page
at (s ∷ rest) zero = s
at (s ∷ rest) (suc n) = at rest n

abbrev pub built_page : Shape
built_page = at (built stacd).subs 0

abbrev pub built_pipe : Shape
built_pipe = at (built stacd).subs 1

abbrev pub built_serve : Shape
built_serve = at (built stacd).subs 2

abbrev pub built_keep : Shape
built_keep = at (built stacd).subs 3

abbrev pub by_arg : List Rule → Option Rule → Text → Held → Held
by_arg c None word h = h
by_arg c (Some a) word h = positional_held c a word h

abbrev pub held_at : Shape → ℕ → Text → Held → Held
held_at s pos word h = by_arg s.rules (arg_by_index s.rules pos) word h

abbrev pub faults : Shape → List Text → Kinds
faults s words = level_fault s [] nothing_held words false []

abbrev pub rows : Shape → List Text → List Row
rows s words = rows_after s.rules [] words

-- page
pub none_page : faults built_page [] ≡ kind.MissingRequiredArgument ∷ []
unfolding walk_fault defaults_fault
none_page = refl

pub one_page : (a : Text) → IsPlainWord a → faults built_page (a ∷ []) ≡ []
unfolding walk_fault defaults_fault
one_page a p = rw (turn_plain built_page nothing_held 1 a p, walked_plain built_page.rules nothing_held 1 a p) refl

pub more_page : (a b : Text) (rest : List Text) → IsPlainWord a → IsPlainWord b → faults built_page (a ∷ (b ∷ rest)) ≡ kind.UnknownArgument ∷ []
unfolding walk_fault defaults_fault
more_page a b rest p q =
    rw (turn_plain built_page nothing_held 1 a p, walked_plain built_page.rules nothing_held 1 a p, turn_plain built_page (held_at built_page 1 a nothing_held) 2 b q) refl

pub row_page : (a : Text) → IsPlainWord a → first_of (codes "a") (rows built_page (a ∷ [])) ≡ Some a
row_page a p = rw (walked_plain built_page.rules nothing_held 1 a p) refl

-- pipe
pub none_pipe : faults built_pipe [] ≡ kind.MissingRequiredArgument ∷ []
unfolding walk_fault defaults_fault
none_pipe = refl

pub one_pipe : (a : Text) → IsPlainWord a → faults built_pipe (a ∷ []) ≡ []
unfolding walk_fault defaults_fault
one_pipe a p = rw (turn_plain built_pipe nothing_held 1 a p, walked_plain built_pipe.rules nothing_held 1 a p) refl

pub more_pipe : (a b : Text) (rest : List Text) → IsPlainWord a → IsPlainWord b → faults built_pipe (a ∷ (b ∷ rest)) ≡ kind.UnknownArgument ∷ []
unfolding walk_fault defaults_fault
more_pipe a b rest p q =
    rw (turn_plain built_pipe nothing_held 1 a p, walked_plain built_pipe.rules nothing_held 1 a p, turn_plain built_pipe (held_at built_pipe 1 a nothing_held) 2 b q) refl

pub row_pipe : (a : Text) → IsPlainWord a → first_of (codes "a") (rows built_pipe (a ∷ [])) ≡ Some a
row_pipe a p = rw (walked_plain built_pipe.rules nothing_held 1 a p) refl

-- serve

pub few_serve_0 : faults built_serve [] ≡ kind.MissingRequiredArgument ∷ []
unfolding walk_fault defaults_fault
few_serve_0 = refl

pub few_serve_1 : (a : Text) → IsPlainWord a → faults built_serve (a ∷ []) ≡ kind.MissingRequiredArgument ∷ []
unfolding walk_fault defaults_fault
few_serve_1 a p1 = rw (turn_plain built_serve nothing_held 1 a p1, walked_plain built_serve.rules nothing_held 1 a p1) refl

pub few_serve_2 : (a b : Text) → IsPlainWord a → IsPlainWord b → faults built_serve (a ∷ (b ∷ [])) ≡ kind.MissingRequiredArgument ∷ []
unfolding walk_fault defaults_fault
few_serve_2 a b p1 p2 = rw (turn_plain built_serve nothing_held 1 a p1, walked_plain built_serve.rules nothing_held 1 a p1, turn_plain built_serve (held_at built_serve 1 a nothing_held) 2 b p2, walked_plain built_serve.rules (held_at built_serve 1 a nothing_held) 2 b p2) refl

pub few_serve_3 : (a b c : Text) → IsPlainWord a → IsPlainWord b → IsPlainWord c → faults built_serve (a ∷ (b ∷ (c ∷ []))) ≡ kind.MissingRequiredArgument ∷ []
unfolding walk_fault defaults_fault
few_serve_3 a b c p1 p2 p3 = rw (turn_plain built_serve nothing_held 1 a p1, walked_plain built_serve.rules nothing_held 1 a p1, turn_plain built_serve (held_at built_serve 1 a nothing_held) 2 b p2, walked_plain built_serve.rules (held_at built_serve 1 a nothing_held) 2 b p2, turn_plain built_serve (held_at built_serve 2 b (held_at built_serve 1 a nothing_held)) 3 c p3, walked_plain built_serve.rules (held_at built_serve 2 b (held_at built_serve 1 a nothing_held)) 3 c p3) refl

pub all_serve : (a b c d : Text) → IsPlainWord a → IsPlainWord b → IsPlainWord c → IsPlainWord d → faults built_serve (a ∷ (b ∷ (c ∷ (d ∷ [])))) ≡ []
unfolding walk_fault defaults_fault
all_serve a b c d p1 p2 p3 p4 = rw (turn_plain built_serve nothing_held 1 a p1, walked_plain built_serve.rules nothing_held 1 a p1, turn_plain built_serve (held_at built_serve 1 a nothing_held) 2 b p2, walked_plain built_serve.rules (held_at built_serve 1 a nothing_held) 2 b p2, turn_plain built_serve (held_at built_serve 2 b (held_at built_serve 1 a nothing_held)) 3 c p3, walked_plain built_serve.rules (held_at built_serve 2 b (held_at built_serve 1 a nothing_held)) 3 c p3, turn_plain built_serve (held_at built_serve 3 c (held_at built_serve 2 b (held_at built_serve 1 a nothing_held))) 4 d p4, walked_plain built_serve.rules (held_at built_serve 3 c (held_at built_serve 2 b (held_at built_serve 1 a nothing_held))) 4 d p4) refl

pub more_serve : (a b c d e : Text) (rest : List Text) → IsPlainWord a → IsPlainWord b → IsPlainWord c → IsPlainWord d → IsPlainWord e → faults built_serve (a ∷ (b ∷ (c ∷ (d ∷ (e ∷ rest))))) ≡ kind.UnknownArgument ∷ []
unfolding walk_fault defaults_fault
more_serve a b c d e rest p1 p2 p3 p4 p5 = rw (turn_plain built_serve nothing_held 1 a p1, walked_plain built_serve.rules nothing_held 1 a p1, turn_plain built_serve (held_at built_serve 1 a nothing_held) 2 b p2, walked_plain built_serve.rules (held_at built_serve 1 a nothing_held) 2 b p2, turn_plain built_serve (held_at built_serve 2 b (held_at built_serve 1 a nothing_held)) 3 c p3, walked_plain built_serve.rules (held_at built_serve 2 b (held_at built_serve 1 a nothing_held)) 3 c p3, turn_plain built_serve (held_at built_serve 3 c (held_at built_serve 2 b (held_at built_serve 1 a nothing_held))) 4 d p4, walked_plain built_serve.rules (held_at built_serve 3 c (held_at built_serve 2 b (held_at built_serve 1 a nothing_held))) 4 d p4, turn_plain built_serve (held_at built_serve 4 d (held_at built_serve 3 c (held_at built_serve 2 b (held_at built_serve 1 a nothing_held)))) 5 e p5) refl

abbrev pub RowsOfServe : List Row → Text → Text → Text → Text → Type 0
RowsOfServe r a b c d = (first_of (codes "a") r ≡ Some a) × (first_of (codes "b") r ≡ Some b) × (first_of (codes "c") r ≡ Some c) × (first_of (codes "d") r ≡ Some d)

pub rows_serve : (a b c d : Text) → IsPlainWord a → IsPlainWord b → IsPlainWord c → IsPlainWord d → RowsOfServe (rows built_serve (a ∷ (b ∷ (c ∷ (d ∷ []))))) a b c d
rows_serve a b c d p1 p2 p3 p4 = rw (walked_plain built_serve.rules nothing_held 1 a p1, walked_plain built_serve.rules (held_at built_serve 1 a nothing_held) 2 b p2, walked_plain built_serve.rules (held_at built_serve 2 b (held_at built_serve 1 a nothing_held)) 3 c p3, walked_plain built_serve.rules (held_at built_serve 3 c (held_at built_serve 2 b (held_at built_serve 1 a nothing_held))) 4 d p4) (refl, refl, refl, refl)

-- keep

abbrev keep_1 : Text → Held
keep_1 a = held_at built_keep 1 a nothing_held

abbrev keep_2 : Text → Text → Held
keep_2 a b = held_at built_keep 2 b (keep_1 a)

abbrev keep_3 : Text → Text → Text → Held
keep_3 a b c = held_at built_keep 3 c (keep_2 a b)

abbrev keep_4 : Text → Text → Text → Text → Held
keep_4 a b c d = held_at built_keep 4 d (keep_3 a b c)

pub few_keep_0 : faults built_keep [] ≡ kind.MissingRequiredArgument ∷ []
unfolding walk_fault defaults_fault
few_keep_0 = refl

pub few_keep_1 : (a : Text) → IsPlainWord a → faults built_keep (a ∷ []) ≡ kind.MissingRequiredArgument ∷ []
unfolding walk_fault defaults_fault
few_keep_1 a p1 =
    rw (
      turn_plain built_keep nothing_held 1 a p1,
      walked_plain built_keep.rules nothing_held 1 a p1,
    ) refl

pub few_keep_2 : (a b : Text) → IsPlainWord a → IsPlainWord b → faults built_keep (a ∷ (b ∷ [])) ≡ kind.MissingRequiredArgument ∷ []
unfolding walk_fault defaults_fault
few_keep_2 a b p1 p2 =
    rw (
      turn_plain built_keep nothing_held 1 a p1,
      walked_plain built_keep.rules nothing_held 1 a p1,
      turn_plain built_keep (keep_1 a) 2 b p2,
      walked_plain built_keep.rules (keep_1 a) 2 b p2,
    ) refl

pub few_keep_3 : (a b c : Text) → IsPlainWord a → IsPlainWord b → IsPlainWord c → faults built_keep (a ∷ (b ∷ (c ∷ []))) ≡ kind.MissingRequiredArgument ∷ []
unfolding walk_fault defaults_fault
few_keep_3 a b c p1 p2 p3 =
    rw (
      turn_plain built_keep nothing_held 1 a p1,
      walked_plain built_keep.rules nothing_held 1 a p1,
      turn_plain built_keep (keep_1 a) 2 b p2,
      walked_plain built_keep.rules (keep_1 a) 2 b p2,
      turn_plain built_keep (keep_2 a b) 3 c p3,
      walked_plain built_keep.rules (keep_2 a b) 3 c p3,
    ) refl

pub all_keep : (a b c d : Text) → IsPlainWord a → IsPlainWord b → IsPlainWord c → IsPlainWord d → faults built_keep (a ∷ (b ∷ (c ∷ (d ∷ [])))) ≡ []
unfolding walk_fault defaults_fault
all_keep a b c d p1 p2 p3 p4 =
    rw (
      turn_plain built_keep nothing_held 1 a p1,
      walked_plain built_keep.rules nothing_held 1 a p1,
      turn_plain built_keep (keep_1 a) 2 b p2,
      walked_plain built_keep.rules (keep_1 a) 2 b p2,
      turn_plain built_keep (keep_2 a b) 3 c p3,
      walked_plain built_keep.rules (keep_2 a b) 3 c p3,
      turn_plain built_keep (keep_3 a b c) 4 d p4,
      walked_plain built_keep.rules (keep_3 a b c) 4 d p4,
    ) refl

pub more_keep : (a b c d e : Text) (rest : List Text) → IsPlainWord a → IsPlainWord b → IsPlainWord c → IsPlainWord d → IsPlainWord e → faults built_keep (a ∷ (b ∷ (c ∷ (d ∷ (e ∷ rest))))) ≡ kind.UnknownArgument ∷ []
unfolding walk_fault defaults_fault
more_keep a b c d e rest p1 p2 p3 p4 p5 =
    rw (
      turn_plain built_keep nothing_held 1 a p1,
      walked_plain built_keep.rules nothing_held 1 a p1,
      turn_plain built_keep (keep_1 a) 2 b p2,
      walked_plain built_keep.rules (keep_1 a) 2 b p2,
      turn_plain built_keep (keep_2 a b) 3 c p3,
      walked_plain built_keep.rules (keep_2 a b) 3 c p3,
      turn_plain built_keep (keep_3 a b c) 4 d p4,
      walked_plain built_keep.rules (keep_3 a b c) 4 d p4,
      turn_plain built_keep (keep_4 a b c d) 5 e p5,
    ) refl

abbrev pub RowsOfKeep : List Row → Text → Text → Text → Text → Type 0
RowsOfKeep r a b c d = (first_of (codes "a") r ≡ Some a) × (first_of (codes "b") r ≡ Some b) × (first_of (codes "c") r ≡ Some c) × (first_of (codes "d") r ≡ Some d)

pub rows_keep : (a b c d : Text) → IsPlainWord a → IsPlainWord b → IsPlainWord c → IsPlainWord d → RowsOfKeep (rows built_keep (a ∷ (b ∷ (c ∷ (d ∷ []))))) a b c d
rows_keep a b c d p1 p2 p3 p4 =
    rw (
      walked_plain built_keep.rules nothing_held 1 a p1,
      walked_plain built_keep.rules (keep_1 a) 2 b p2,
      walked_plain built_keep.rules (keep_2 a b) 3 c p3,
      walked_plain built_keep.rules (keep_3 a b c) 4 d p4,
    ) (refl, refl, refl, refl)
