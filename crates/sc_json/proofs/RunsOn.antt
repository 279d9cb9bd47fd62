-- Bytes that are taken all at once.
use Rattle.std.proofs.Common.{◌≡◌, ℕ, ◌+◌, ◌≤◌, List, [], ◌∷◌, ◌++◌, length, take, drop, Bool, true, false, eqb, ltb, leb, ◌&&◌, not, Option, Some, None, refl, sym, ap, ◌∙◌, append_assoc, arith}
use Rattle.std.proofs.lemmas.Bool.Decides.{nat_tests}
use Rattle.std.proofs.lemmas.List.{append-nil, length-take-le, take-append-drop}
use Rattle.std.specs.Option.{option_and_then}
use Rattle.std.specs.List.{list_all}
use Rattle.sc_json.specs.declared.state.State.{State}
use Rattle.sc_json.specs.declared.state.Frame.{Frame}
use Rattle.sc_json.specs.declared.state.Mode.{Mode}
use Rattle.sc_json.specs.declared.state.Mode.TheVariants.{Value, First, FirstName, Name, Colon, Word, Number, Quoted, After}
use Rattle.sc_json.specs.declared.state.Part.{Part}
use Rattle.sc_json.specs.declared.state.Piece.{Piece}
use Rattle.sc_json.specs.declared.state.Piece.TheVariants.{Plain}
use Rattle.sc_json.specs.Machine.{at, goes, is_blank_byte, step_of, rests, read_from, RunsOn}
use Rattle.sc_json.specs.Numbers.{next_part, parts_on}
use Rattle.sc_json.specs.Pieces.{is_plain_byte}
use Rattle.sc_json.proofs.Steps.{within}

goes_on : (s t : State) (n b : ℕ) (bs : List ℕ) → step_of s n b ≡ goes t → read_from (b ∷ bs) n s ≡ read_from bs (n + 1) t
unfolding read_from
goes_on s t n b bs h = rw h refl

pub and_both : (x y : Bool) → x && y ≡ true → (x ≡ true) × (y ≡ true)
and_both true true h = (refl, refl)
and_both true false h = absurd cc
and_both false y h = absurd cc

pub not_false : (x : Bool) → not x ≡ true → x ≡ false
not_false true h = absurd cc
not_false false h = refl

pub not_control : (b : ℕ) → leb 32 b ≡ true → ltb b 32 ≡ false
not_control b h = grind (arith, nat_tests)

plain_step : (k : List Frame) (is_name : Bool) (bytes : List ℕ) (from n b : ℕ) → is_plain_byte b ≡ true → step_of (within k is_name Plain bytes from) n b ≡ goes (within k is_name Plain (bytes ++ b ∷ []) from)
unfolding step_of
plain_step k is_name bytes from n b h =
    let outer = and_both (leb 32 b && not (eqb b 34)) (not (eqb b 92)) h in
    let inner = and_both (leb 32 b) (not (eqb b 34)) outer.0 in
    rw (not_false (eqb b 34) inner.1, not_false (eqb b 92) outer.1, not_control b inner.0) refl

further : (s t : State) (bs : List ℕ) (n m : ℕ) → n ≡ m → s ≡ t → read_from bs n s ≡ read_from bs m t
further s t bs n m e h = ap (λ (i : ℕ). read_from bs i s) e ∙ ap (read_from bs m) h

pub plain_run : (k : List Frame) (is_name : Bool) (bytes : List ℕ) (from n : ℕ) (front rest : List ℕ) → list_all is_plain_byte front ≡ true
    → read_from (front ++ rest) n (within k is_name Plain bytes from) ≡ read_from rest (n + length front) (within k is_name Plain (bytes ++ front) from)
plain_run k is_name bytes from n [] rest all = further _ _ rest _ _ (omega arith) (ap (λ (x : List ℕ). within k is_name Plain x from) (sym (append-nil bytes)))
plain_run k is_name bytes from n (b ∷ front) rest all =
    let both = and_both (is_plain_byte b) (list_all is_plain_byte front) all in
    goes_on _ _ n b (front ++ rest) (plain_step k is_name bytes from n b both.0)
    ∙ plain_run k is_name (bytes ++ b ∷ []) from (n + 1) front rest both.1
    ∙ further _ _ rest _ _ (omega arith) (ap (λ (x : List ℕ). within k is_name Plain x from) (append_assoc bytes (b ∷ []) front))

number_step : (k : List Frame) (part next : Part) (ds : List ℕ) (from n b : ℕ) → next_part part b ≡ Some next → step_of (at k (Number part ds from)) n b ≡ goes (at k (Number next (ds ++ b ∷ []) from))
unfolding step_of
number_step k part next ds from n b h = rw h refl

pub number_run : (k : List Frame) (part last : Part) (ds : List ℕ) (from n : ℕ) (front rest : List ℕ) → parts_on part front ≡ Some last
    → read_from (front ++ rest) n (at k (Number part ds from)) ≡ read_from rest (n + length front) (at k (Number last (ds ++ front) from))
number_run k part last ds from n [] rest h =
    let same : part ≡ last = cc in
    further _ _ rest _ _ (omega arith) (ap (λ (x : List ℕ). at k (Number part x from)) (sym (append-nil ds)) ∙ ap (λ (p : Part). at k (Number p (ds ++ []) from)) same)
number_run k part last ds from n (b ∷ front) rest h =
    go (next_part part b) refl h (λ next. number_run k next last (ds ++ b ∷ []) from (n + 1) front rest)
  where
    go : (o : Option Part) → next_part part b ≡ o → option_and_then (λ next. parts_on next front) o ≡ Some last
        → ((next : Part) → parts_on next front ≡ Some last → read_from (front ++ rest) (n + 1) (at k (Number next (ds ++ b ∷ []) from)) ≡ read_from rest (n + 1 + length front) (at k (Number last ((ds ++ b ∷ []) ++ front) from)))
        → read_from (b ∷ (front ++ rest)) n (at k (Number part ds from)) ≡ read_from rest (n + length (b ∷ front)) (at k (Number last (ds ++ b ∷ front) from))
    go None e q onward = absurd cc
    go (Some next) e q onward =
        goes_on _ _ n b (front ++ rest) (number_step k part next ds from n b e)
        ∙ onward next q
        ∙ further _ _ rest _ _ (omega arith) (ap (λ (x : List ℕ). at k (Number last x from)) (append_assoc ds (b ∷ []) front))

pub blank_run : (s : State) → ((n b : ℕ) → is_blank_byte b ≡ true → step_of s n b ≡ goes s) → (n : ℕ) (front rest : List ℕ) → list_all is_blank_byte front ≡ true → read_from (front ++ rest) n s ≡ read_from rest (n + length front) s
blank_run s stays n [] rest all = further _ _ rest _ _ (omega arith) refl
blank_run s stays n (b ∷ front) rest all =
    let both = and_both (is_blank_byte b) (list_all is_blank_byte front) all in
    goes_on s s n b (front ++ rest) (stays n b both.0) ∙ blank_run s stays (n + 1) front rest both.1 ∙ further s s rest _ _ (omega arith) refl

-- the part behind one more byte
pub parts_on-push : (part : Part) (bs : List ℕ) (b : ℕ) → parts_on part (bs ++ b ∷ []) ≡ option_and_then (λ p. next_part p b) (parts_on part bs)
parts_on-push part [] b = go (next_part part b)
  where
    go : (o : Option Part) → option_and_then (λ p. Some p) o ≡ o
    go None = refl
    go (Some p) = refl
parts_on-push part (c ∷ bs) b = go (next_part part c) (λ p. parts_on-push p bs b)
  where
    go : (o : Option Part) → ((p : Part) → parts_on p (bs ++ b ∷ []) ≡ option_and_then (λ q. next_part q b) (parts_on p bs)) → option_and_then (λ p. parts_on p (bs ++ b ∷ [])) o ≡ option_and_then (λ q. next_part q b) (option_and_then (λ p. parts_on p bs) o)
    go None more = refl
    go (Some p) more = more p

pub blank_stays : (k : List Frame) (mode : Mode) → rests mode ≡ true → (n b : ℕ) → is_blank_byte b ≡ true → step_of (at k mode) n b ≡ goes (at k mode)
unfolding step_of
blank_stays k Value r n b h = rw h refl
blank_stays k First r n b h = rw h refl
blank_stays k FirstName r n b h = rw h refl
blank_stays k Name r n b h = rw h refl
blank_stays k Colon r n b h = rw h refl
blank_stays k (After v) r n b h = rw h refl
blank_stays k (Word so_far) r n b h = absurd cc
blank_stays k (Number part ds from) r n b h = absurd cc
blank_stays k (Quoted is_name piece bytes from) r n b h = absurd cc

-- the same of what a slice begins with
cut_front : (s t : State) (bytes : List ℕ) (n m : ℕ) → m ≤ length bytes
    → read_from (take m bytes ++ drop m bytes) n s ≡ read_from (drop m bytes) (n + length (take m bytes)) t → RunsOn bytes n s m t
cut_front s t bytes n m le h =
    (le, ap (λ (x : List ℕ). read_from x n s) (sym (take-append-drop m bytes)) ∙ h ∙ further t t (drop m bytes) _ _ (let e : length (take m bytes) ≡ m = length-take-le m bytes le in omega arith) refl)

pub plain_front : (s : State) (is_name : Bool) (piece : Piece) (acc more : List ℕ) (from n m : ℕ) (bytes : List ℕ) → s.mode ≡ Quoted is_name piece acc from → piece ≡ Plain → m ≤ length bytes
    → list_all is_plain_byte (take m bytes) ≡ true → more ≡ acc ++ take m bytes → RunsOn bytes n s m (at s.stack (Quoted is_name piece more from))
plain_front s is_name piece acc more from n m bytes e p le all same =
    cut_front s (at s.stack (Quoted is_name piece more from)) bytes n m le
    (ap (λ (x : Mode). read_from (take m bytes ++ drop m bytes) n (at s.stack x)) (e ∙ ap (λ (q : Piece). Quoted is_name q acc from) p)
    ∙ plain_run s.stack is_name acc from n (take m bytes) (drop m bytes) all
    ∙ further _ _ (drop m bytes) _ _ refl (ap (λ (x : List ℕ). at s.stack (Quoted is_name Plain x from)) (sym same) ∙ ap (λ (q : Piece). at s.stack (Quoted is_name q more from)) (sym p)))

pub number_front : (s : State) (part last : Part) (ds more : List ℕ) (from n m : ℕ) (bytes : List ℕ) → s.mode ≡ Number part ds from → m ≤ length bytes
    → parts_on part (take m bytes) ≡ Some last → more ≡ ds ++ take m bytes → RunsOn bytes n s m (at s.stack (Number last more from))
number_front s part last ds more from n m bytes e le parts same =
    cut_front s (at s.stack (Number last more from)) bytes n m le
    (ap (λ (x : Mode). read_from (take m bytes ++ drop m bytes) n (at s.stack x)) e
    ∙ number_run s.stack part last ds from n (take m bytes) (drop m bytes) parts
    ∙ further _ _ (drop m bytes) _ _ refl (ap (λ (x : List ℕ). at s.stack (Number last x from)) (sym same)))

pub blank_front : (s : State) (n m : ℕ) (bytes : List ℕ) → rests s.mode ≡ true → m ≤ length bytes → list_all is_blank_byte (take m bytes) ≡ true → RunsOn bytes n s m s
blank_front s n m bytes r le all = cut_front s s bytes n m le (blank_run s (blank_stays s.stack s.mode r) n (take m bytes) (drop m bytes) all)
