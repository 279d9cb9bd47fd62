-- A byte leads to a good state exactly where it stands in one and breaks no limit.
use Rattle.std.proofs.Common.{◌≡◌, inl, inr, ℕ, suc, ◌≤◌, List, [], ◌∷◌, ◌++◌, length, Bool, true, false, cond, eqb, leb, ◌&&◌, Option, Some, None, refl, sym, subst, ◌∙◌, arith, IsUtf8}
use Rattle.std.specs.List.{AllByRecursion}
use Rattle.std.specs.Option.{option_map_or}
use Rattle.std.specs.Str.{is_utf8}
use Rattle.std.proofs.lemmas.Bool.Decides.{nat_tests}
use Rattle.std.proofs.lemmas.Str.{IsUtf8-from_is_utf8}
use Rattle.sc_decimal.specs.Value.{is_wide}
use Rattle.sc_json.specs.declared.tree.Json.{Json}
use Rattle.sc_json.specs.declared.tree.Json.TheVariants as trees
use Rattle.sc_json.specs.declared.tree.Member.{Member}
use Rattle.sc_json.specs.declared.state.State.{State}
use Rattle.sc_json.specs.declared.state.Part.{Part}
use Rattle.sc_json.specs.declared.state.Part.TheVariants as parts
use Rattle.sc_json.specs.declared.state.Piece as pieces
use Rattle.sc_json.specs.declared.state.Piece.TheVariants.{Plain}
use Rattle.sc_json.specs.declared.state.Letters.{Letters}
use Rattle.sc_json.specs.declared.state.Letters.TheVariants.{T, Tr, Tru, F, Fa, Fal, Fals, N, Nu, Nul}
use Rattle.sc_json.specs.declared.state.Frame.{Frame}
use Rattle.sc_json.specs.declared.state.Frame.TheVariants as frames
use Rattle.sc_json.specs.declared.state.Mode.{Mode}
use Rattle.sc_json.specs.declared.state.Mode.TheVariants.{Value, First, FirstName, Name, Colon, Word, Number, Quoted, After}
use Rattle.sc_json.specs.Characters.{is_blank_byte}
use Rattle.sc_json.specs.Numbers.{next_part, is_whole}
use Rattle.sc_json.specs.Pieces.{piece_of}
use Rattle.sc_json.specs.Machine.{Move, Limit, double, deep, wide, at, goes, plain, refused, nested, scalar_of, begin_of, close_list_of, close_object_of, first_of, name_of, first_name_of, colon_of, element_of, member_of, inner_of, after_of, wanted_of, with_letter, word_of, has_name, ended_value, wide_of, ended_breaks, ended_move, number_move, named_of, unquote_of, with_added, grown_of, is_plain, quoted_move, step_in, end_value_in, end_breaks_in}
use Rattle.sc_json.specs.Grammar as grammar
use Rattle.sc_json.proofs.Complete.{number_tree}
use Rattle.sc_json.proofs.Numerals.{literal_json}
use Rattle.sc_json.proofs.SoundNumbers.{chosen, some_is, InPart, part_literal}
use Rattle.sc_json.proofs.Sound.{mapped}
use Rattle.sc_json.proofs.GoodTrees.{each_push, each_pop, GoodAt, GoodMembers, good_list, list_good, good_object, object_good, members_push, members_pop, good_null, good_truth, good_text, good_number, number_narrow}

-- ---- good states

-- members, and a name that none of them has
pub record GoodNamed (n : ℕ) (ms : List Member) (name : List ℕ) : Type 0 where
  pub members : GoodMembers n ms
  pub new : has_name ms name ≡ false
  pub utf8 : IsUtf8 name

abbrev pub GoodFrame : ℕ → Frame → Type 0
GoodFrame n (frames.List xs) = AllByRecursion (GoodAt n) xs
GoodFrame n (frames.Object ms) = GoodMembers n ms
GoodFrame n (frames.Member ms name) = GoodNamed n ms name

abbrev pub GoodStack : List Frame → Type 0
GoodStack [] = Unit {0}
GoodStack (f ∷ k) = GoodFrame (suc (length k)) f × GoodStack k

abbrev pub GoodMode : List Frame → Mode → Type 0
GoodMode k (After v) = GoodAt (length k) v
GoodMode k _ = Unit {0}

-- what was read so far breaks no limit
pub record GoodState (k : List Frame) (mode : Mode) : Type 0 where
  pub stack : GoodStack k
  pub few : length k ≤ 64
  pub value : GoodMode k mode

abbrev pub GoodTo : State → Type 0
GoodTo t = GoodState t.stack t.mode

-- both or neither
pub record Alike (A B : Type 0) : Type 0 where
  pub to : A → B
  pub from : B → A

alike_then : {A B C : Type 0} → Alike A B → Alike B C → Alike A C
alike_then x y = record { to = λ a. y.to (x.to a); from = λ c. x.from (y.from c) }

record Allowed (k : List Frame) (mode : Mode) (breaks : Option Limit) : Type 0 where
  good : GoodState k mode
  none : breaks ≡ None

abbrev Fine : List Frame → Mode → Move → Type 0
Fine k mode m = (t : State) → m.next ≡ Some t → Alike (GoodTo t) (Allowed k mode m.breaks)

abbrev Leaves : List Frame → Mode → Option State → Type 0
Leaves k mode o = (t : State) → o ≡ Some t → Alike (GoodTo t) (GoodState k mode)

either : (k : List Frame) (mode : Mode) (b : Bool) (x y : Move) → (b ≡ true → Fine k mode x) → (b ≡ false → Fine k mode y) → Fine k mode (cond b x y)
either k mode true x y f g = f refl
either k mode false x y f g = g refl

or_leaves : (k : List Frame) (mode : Mode) (b : Bool) (x y : Option State) → (b ≡ true → Leaves k mode x) → (b ≡ false → Leaves k mode y) → Leaves k mode (cond b x y)
or_leaves k mode true x y f g = f refl
or_leaves k mode false x y f g = g refl

unbroken : (k : List Frame) (mode : Mode) (o : Option State) → Leaves k mode o → Fine k mode (plain o)
unbroken k mode o h = λ t e. record { to = λ g. record { good = (h t e).to g; none = refl }; from = λ a. (h t e).from a.good }

none_leaves : (k : List Frame) (mode : Mode) → Leaves k mode None
none_leaves k mode = λ t e. absurd cc

some_leaves : (k l : List Frame) (mode next : Mode) → Alike (GoodState l next) (GoodState k mode) → Leaves k mode (Some (at l next))
some_leaves k l mode next h = λ t e. subst (λ (x : State). Alike (GoodTo x) (GoodState k mode)) (some_is (at l next) t e) h

-- another mode in the same lists and objects
same_stack : (k : List Frame) (mode next : Mode) → (length k ≤ 64 → GoodMode k mode) → (length k ≤ 64 → GoodMode k next) → Leaves k mode (Some (at k next))
same_stack k mode next x y = some_leaves k k mode next (record {
  to = λ g. record { stack = g.stack; few = g.few; value = x g.few };
  from = λ g. record { stack = g.stack; few = g.few; value = y g.few };
})

stays_so : (k : List Frame) (mode : Mode) → Leaves k mode (Some (at k mode))
stays_so k mode = some_leaves k k mode mode (record { to = λ g. g; from = λ g. g })

-- ---- a value begins

nested_fine : (k : List Frame) (mode : Mode) (frame : Frame) (next : Mode) (n : ℕ) → GoodMode k mode → GoodFrame (suc (length k)) frame → GoodMode (frame ∷ k) next → Fine k mode (nested k frame next n)
nested_fine k mode frame next n u f v = λ t e. subst (λ (x : State). Alike (GoodTo x) (Allowed k mode (cond {A = Option Limit} (leb 64 (length k)) (Some (deep n)) None))) (some_is (at (frame ∷ k) next) t e) (record {
  to = λ g. record { good = record { stack = g.stack.1; few = shorter (length k) g.few; value = u }; none = shallow (length k) g.few };
  from = λ a. record { stack = (f, a.good.stack); few = longer (length k) a.none; value = v };
})
  where
    shorter : (l : ℕ) → suc l ≤ 64 → l ≤ 64
    shorter l h = omega arith

    shallow : (l : ℕ) → suc l ≤ 64 → cond {A = Option Limit} (leb 64 l) (Some (deep n)) None ≡ None
    shallow l h = let no_more : leb 64 l ≡ false = grind (arith, nat_tests) in rw no_more refl

    longer : (l : ℕ) → cond {A = Option Limit} (leb 64 l) (Some (deep n)) None ≡ None → suc l ≤ 64
    longer l h = elim (chosen {A = Option Limit} (leb 64 l) (Some (deep n)) None None h) [
      | inl p ↦ absurd cc
      | inr p ↦ below l p.0
    ]
      where
        below : (l : ℕ) → leb 64 l ≡ false → suc l ≤ 64
        below l h = grind (arith, nat_tests)

scalar_leaves : (k : List Frame) (mode : Mode) (n b : ℕ) → GoodMode k mode → Leaves k mode (scalar_of k n b)
scalar_leaves k mode n b u =
    or_leaves k mode (eqb b 45) _ _ (λ e. same_stack k mode (Number parts.Minus (b ∷ []) n) (λ l. u) (λ l. tt)) (λ e.
    or_leaves k mode (eqb b 48) _ _ (λ e. same_stack k mode (Number parts.Zero (b ∷ []) n) (λ l. u) (λ l. tt)) (λ e.
    or_leaves k mode (leb 49 b && leb b 57) _ _ (λ e. same_stack k mode (Number parts.Whole (b ∷ []) n) (λ l. u) (λ l. tt)) (λ e.
    or_leaves k mode (eqb b 116) _ _ (λ e. same_stack k mode (Word T) (λ l. u) (λ l. tt)) (λ e.
    or_leaves k mode (eqb b 102) _ _ (λ e. same_stack k mode (Word F) (λ l. u) (λ l. tt)) (λ e.
    or_leaves k mode (eqb b 110) _ _ (λ e. same_stack k mode (Word N) (λ l. u) (λ l. tt)) (λ e. none_leaves k mode))))))

no_members : (n : ℕ) → GoodMembers n []
no_members n = record { differ = λ i j d ij jl. absurd (omega arith); all = tt }

begin_fine : (k : List Frame) (mode : Mode) (n b : ℕ) → GoodMode k mode → Fine k mode (begin_of k n b)
begin_fine k mode n b u =
    either k mode (is_blank_byte b) _ _ (λ e. unbroken k mode _ (same_stack k mode Value (λ l. u) (λ l. tt))) (λ e.
    either k mode (eqb b 34) _ _ (λ e. unbroken k mode _ (same_stack k mode (Quoted false Plain [] n) (λ l. u) (λ l. tt))) (λ e.
    either k mode (eqb b 91) _ _ (λ e. nested_fine k mode (frames.List []) First n u tt tt) (λ e.
    either k mode (eqb b 123) _ _ (λ e. nested_fine k mode (frames.Object []) FirstName n u (no_members (suc (length k))) tt) (λ e. unbroken k mode _ (scalar_leaves k mode n b u)))))

-- ---- a list or an object ends

list_over : (k : List Frame) (xs : List Json) (mode : Mode) → GoodMode (frames.List xs ∷ k) mode → Alike (GoodState k (After (trees.List xs))) (GoodState (frames.List xs ∷ k) mode)
list_over k xs mode u = record {
  to = λ g. let r = list_good (length k) xs g.value in record { stack = (r.0, g.stack); few = r.1; value = u };
  from = λ g. record { stack = g.stack.1; few = shorter (length k) g.few; value = good_list (length k) xs g.stack.0 g.few };
}
  where
    shorter : (l : ℕ) → suc l ≤ 64 → l ≤ 64
    shorter l h = omega arith

object_over : (k : List Frame) (ms : List Member) (mode : Mode) → GoodMode (frames.Object ms ∷ k) mode → Alike (GoodState k (After (trees.Object ms))) (GoodState (frames.Object ms ∷ k) mode)
object_over k ms mode u = record {
  to = λ g. let r = object_good (length k) ms g.value in record { stack = (r.0, g.stack); few = r.1; value = u };
  from = λ g. record { stack = g.stack.1; few = shorter (length k) g.few; value = good_object (length k) ms g.stack.0 g.few };
}
  where
    shorter : (l : ℕ) → suc l ≤ 64 → l ≤ 64
    shorter l h = omega arith

close_list_leaves : (k : List Frame) → Leaves k First (close_list_of k)
close_list_leaves [] = none_leaves [] First
close_list_leaves (frames.List xs ∷ k) = some_leaves (frames.List xs ∷ k) k First (After (trees.List xs)) (list_over k xs First tt)
close_list_leaves (frames.Object ms ∷ k) = none_leaves (frames.Object ms ∷ k) First
close_list_leaves (frames.Member ms name ∷ k) = none_leaves (frames.Member ms name ∷ k) First

close_object_leaves : (k : List Frame) → Leaves k FirstName (close_object_of k)
close_object_leaves [] = none_leaves [] FirstName
close_object_leaves (frames.List xs ∷ k) = none_leaves (frames.List xs ∷ k) FirstName
close_object_leaves (frames.Object ms ∷ k) = some_leaves (frames.Object ms ∷ k) k FirstName (After (trees.Object ms)) (object_over k ms FirstName tt)
close_object_leaves (frames.Member ms name ∷ k) = none_leaves (frames.Member ms name ∷ k) FirstName

first_fine : (k : List Frame) (n b : ℕ) → Fine k First (first_of k n b)
first_fine k n b =
    either k First (is_blank_byte b) _ _ (λ e. unbroken k First _ (stays_so k First)) (λ e.
    either k First (eqb b 93) _ _ (λ e. unbroken k First _ (close_list_leaves k)) (λ e. begin_fine k First n b tt))

-- ---- names

name_leaves : (k : List Frame) (mode : Mode) (n b : ℕ) → GoodMode k mode → Leaves k mode (name_of k n b)
name_leaves k mode n b u =
    or_leaves k mode (is_blank_byte b) _ _ (λ e. same_stack k mode Name (λ l. u) (λ l. tt)) (λ e.
    or_leaves k mode (eqb b 34) _ _ (λ e. same_stack k mode (Quoted true Plain [] n) (λ l. u) (λ l. tt)) (λ e. none_leaves k mode))

first_name_leaves : (k : List Frame) (n b : ℕ) → Leaves k FirstName (first_name_of k n b)
first_name_leaves k n b =
    or_leaves k FirstName (is_blank_byte b) _ _ (λ e. stays_so k FirstName) (λ e.
    or_leaves k FirstName (eqb b 125) _ _ (λ e. close_object_leaves k) (λ e. name_leaves k FirstName n b tt))

colon_leaves : (k : List Frame) (b : ℕ) → Leaves k Colon (colon_of k b)
colon_leaves k b =
    or_leaves k Colon (is_blank_byte b) _ _ (λ e. stays_so k Colon) (λ e.
    or_leaves k Colon (eqb b 58) _ _ (λ e. same_stack k Colon Value (λ l. tt) (λ l. tt)) (λ e. none_leaves k Colon))

-- ---- behind a value

one_more_element : (k : List Frame) (xs : List Json) (v : Json) → Alike (GoodState (frames.List (xs ++ v ∷ []) ∷ k) Value) (GoodState (frames.List xs ∷ k) (After v))
one_more_element k xs v = record {
  to = λ g. let r = each_pop (GoodAt (suc (length k))) xs v g.stack.0 in record { stack = (r.0, g.stack.1); few = g.few; value = r.1 };
  from = λ g. record { stack = (each_push (GoodAt (suc (length k))) xs v g.stack.0 g.value, g.stack.1); few = g.few; value = tt };
}

element_leaves : (k : List Frame) (xs : List Json) (v : Json) (b : ℕ) → Leaves (frames.List xs ∷ k) (After v) (element_of k xs v b)
element_leaves k xs v b =
    or_leaves (frames.List xs ∷ k) (After v) (eqb b 44) _ _ (λ e. some_leaves (frames.List xs ∷ k) (frames.List (xs ++ v ∷ []) ∷ k) (After v) Value (one_more_element k xs v)) (λ e.
    or_leaves (frames.List xs ∷ k) (After v) (eqb b 93) _ _ (λ e. some_leaves (frames.List xs ∷ k) k (After v) (After (trees.List (xs ++ v ∷ []))) (alike_then (list_over k (xs ++ v ∷ []) Value tt) (one_more_element k xs v))) (λ e. none_leaves (frames.List xs ∷ k) (After v)))

one_more_member : (k : List Frame) (ms : List Member) (name : List ℕ) (v : Json) → Alike (GoodState (frames.Object (ms ++ grammar.member name v ∷ []) ∷ k) Name) (GoodState (frames.Member ms name ∷ k) (After v))
one_more_member k ms name v = record {
  to = λ g. let r = members_pop (suc (length k)) ms name v g.stack.0 in record { stack = (record { members = r.others; new = r.new; utf8 = r.utf8 }, g.stack.1); few = g.few; value = r.value };
  from = λ g. record { stack = (members_push (suc (length k)) ms name v g.stack.0.members g.stack.0.new g.stack.0.utf8 g.value, g.stack.1); few = g.few; value = tt };
}

member_leaves : (k : List Frame) (ms : List Member) (name : List ℕ) (v : Json) (b : ℕ) → Leaves (frames.Member ms name ∷ k) (After v) (member_of k ms name v b)
member_leaves k ms name v b =
    or_leaves (frames.Member ms name ∷ k) (After v) (eqb b 44) _ _ (λ e. some_leaves (frames.Member ms name ∷ k) (frames.Object (ms ++ grammar.member name v ∷ []) ∷ k) (After v) Name (one_more_member k ms name v)) (λ e.
    or_leaves (frames.Member ms name ∷ k) (After v) (eqb b 125) _ _ (λ e. some_leaves (frames.Member ms name ∷ k) k (After v) (After (trees.Object (ms ++ grammar.member name v ∷ []))) (alike_then (object_over k (ms ++ grammar.member name v ∷ []) Name tt) (one_more_member k ms name v))) (λ e. none_leaves (frames.Member ms name ∷ k) (After v)))

inner_leaves : (k : List Frame) (v : Json) (b : ℕ) → Leaves k (After v) (inner_of k v b)
inner_leaves [] v b = none_leaves [] (After v)
inner_leaves (frames.List xs ∷ k) v b = element_leaves k xs v b
inner_leaves (frames.Object ms ∷ k) v b = none_leaves (frames.Object ms ∷ k) (After v)
inner_leaves (frames.Member ms name ∷ k) v b = member_leaves k ms name v b

after_leaves : (k : List Frame) (v : Json) (b : ℕ) → Leaves k (After v) (after_of k v b)
after_leaves k v b = or_leaves k (After v) (is_blank_byte b) _ _ (λ e. stays_so k (After v)) (λ e. inner_leaves k v b)

-- ---- words

letter_good : (k : List Frame) (x : Letters) → length k ≤ 64 → GoodMode k (with_letter x)
letter_good k T le = tt
letter_good k Tr le = tt
letter_good k Tru le = good_truth true (length k) le
letter_good k F le = tt
letter_good k Fa le = tt
letter_good k Fal le = tt
letter_good k Fals le = good_truth false (length k) le
letter_good k N le = tt
letter_good k Nu le = tt
letter_good k Nul le = good_null (length k) le

word_leaves : (k : List Frame) (x : Letters) (b : ℕ) → Leaves k (Word x) (word_of k x b)
word_leaves k x b = or_leaves k (Word x) (eqb b (wanted_of x)) _ _ (λ e. same_stack k (Word x) (with_letter x) (λ l. tt) (letter_good k x)) (λ e. none_leaves k (Word x))

-- ---- numbers

-- a whole number
number_over : (k : List Frame) (part : Part) (ds : List ℕ) (from : ℕ) (v : Json) → InPart part ds → ended_value part ds ≡ Some v → Alike (GoodState k (After v)) (Allowed k (Number part ds from) (ended_breaks part ds from))
number_over k part ds from v so_far e =
    elim (chosen (is_whole part) _ _ _ e) [
      | inl p ↦
          let spelled = part_literal part ds p.0 so_far in
          let is : number_tree ds ≡ v = some_is (number_tree ds) v (sym (literal_json ds spelled) ∙ p.1) in
          let breaks_are : ended_breaks part ds from ≡ wide_of ds from = rw p.0 refl in
          record {
            to = λ g. record { good = record { stack = g.stack; few = g.few; value = tt }; none = breaks_are ∙ unbroken_from (is_wide ds) (number_narrow ds (subst (GoodAt (length k)) (sym is) g.value).levels) };
            from = λ a. record { stack = a.good.stack; few = a.good.few; value = subst (GoodAt (length k)) is (good_number ds (length k) spelled (narrow_from (is_wide ds) (sym breaks_are ∙ a.none)) a.good.few) };
          }
      | inr p ↦ absurd cc
    ]
  where
    unbroken_from : (b : Bool) → b ≡ false → cond {A = Option Limit} b (Some (wide from)) None ≡ None
    unbroken_from b h = rw h refl

    narrow_from : (b : Bool) → cond {A = Option Limit} b (Some (wide from)) None ≡ None → b ≡ false
    narrow_from true h = absurd cc
    narrow_from false h = refl

number_fine : (k : List Frame) (part : Part) (ds : List ℕ) (from b : ℕ) → InPart part ds → Fine k (Number part ds from) (number_move k part ds from b)
number_fine k part ds from b so_far = go (next_part part b)
  where
    go : (o : Option Part) → Fine k (Number part ds from) (option_map_or (λ p. goes (at k (Number p (ds ++ b ∷ []) from))) o (ended_move k part ds from b))
    go (Some q) = unbroken k (Number part ds from) _ (same_stack k (Number part ds from) (Number q (ds ++ b ∷ []) from) (λ l. tt) (λ l. tt))
    go None = λ t e.
        let m = mapped (λ v. after_of k v b) (ended_value part ds) t e in
        alike_then (after_leaves k m.x b t m.then_is) (number_over k part ds from m.x so_far m.is)

-- ---- texts in quotes

grown_leaves : (k : List Frame) (is_name : Bool) (piece : pieces.Piece) (bytes : List ℕ) (from b : ℕ) → Leaves k (Quoted is_name piece bytes from) (grown_of k is_name piece bytes from b)
grown_leaves k is_name piece bytes from b = λ t e.
    let one = mapped (λ g. option_map_or (λ more. Some (at k (Quoted is_name g.piece more from))) (with_added bytes g.added) None) (piece_of piece b) t e in
    let two = mapped (λ more. Some (at k (Quoted is_name one.x.piece more from))) (with_added bytes one.x.added) t one.then_is in
    same_stack k (Quoted is_name piece bytes from) (Quoted is_name one.x.piece two.x from) (λ l. tt) (λ l. tt) t two.then_is

named_fine : (k : List Frame) (piece : pieces.Piece) (bytes : List ℕ) (from : ℕ) → IsUtf8 bytes → Fine k (Quoted true piece bytes from) (named_of k bytes from)
named_fine [] piece bytes from u = λ t e. absurd cc
named_fine (frames.List xs ∷ k) piece bytes from u = λ t e. absurd cc
named_fine (frames.Member ms name ∷ k) piece bytes from u = λ t e. absurd cc
named_fine (frames.Object ms ∷ k) piece bytes from u = λ t e. subst (λ (x : State). Alike (GoodTo x) (Allowed (frames.Object ms ∷ k) (Quoted true piece bytes from) (cond {A = Option Limit} (has_name ms bytes) (Some (double from)) None))) (some_is (at (frames.Member ms bytes ∷ k) Colon) t e) (record {
  to = λ g. record { good = record { stack = (g.stack.0.members, g.stack.1); few = g.few; value = tt }; none = unbroken_from (has_name ms bytes) g.stack.0.new };
  from = λ a. record { stack = (record { members = a.good.stack.0; new = other_from (has_name ms bytes) a.none; utf8 = u }, a.good.stack.1); few = a.good.few; value = tt };
})
  where
    unbroken_from : (b : Bool) → b ≡ false → cond {A = Option Limit} b (Some (double from)) None ≡ None
    unbroken_from b h = rw h refl

    other_from : (b : Bool) → cond {A = Option Limit} b (Some (double from)) None ≡ None → b ≡ false
    other_from true h = absurd cc
    other_from false h = refl

unquote_fine : (k : List Frame) (is_name : Bool) (piece : pieces.Piece) (bytes : List ℕ) (from : ℕ) → Fine k (Quoted is_name piece bytes from) (unquote_of k is_name bytes from)
unquote_fine k is_name piece bytes from = go is_name (is_utf8 bytes) refl
  where
    go : (is_name u : Bool) → is_utf8 bytes ≡ u → Fine k (Quoted is_name piece bytes from) (option_map_or (λ x. cond is_name (named_of k x from) (goes (at k (After (trees.Text x))))) (cond {A = Option (List ℕ)} u (Some bytes) None) refused)
    go is_name false is = λ t e. absurd cc
    go true true is = named_fine k piece bytes from (IsUtf8-from_is_utf8 bytes is)
    go false true is = unbroken k (Quoted false piece bytes from) _ (same_stack k (Quoted false piece bytes from) (After (trees.Text bytes)) (λ l. tt) (good_text bytes (IsUtf8-from_is_utf8 bytes is) (length k)))

quoted_fine : (k : List Frame) (is_name : Bool) (piece : pieces.Piece) (bytes : List ℕ) (from b : ℕ) → Fine k (Quoted is_name piece bytes from) (quoted_move k is_name piece bytes from b)
quoted_fine k is_name piece bytes from b =
    either k (Quoted is_name piece bytes from) (is_plain piece) _ _ (λ e.
    either k (Quoted is_name piece bytes from) (eqb b 34) _ _ (λ e. unquote_fine k is_name piece bytes from) (λ e. unbroken k (Quoted is_name piece bytes from) _ (grown_leaves k is_name piece bytes from b))) (λ e. unbroken k (Quoted is_name piece bytes from) _ (grown_leaves k is_name piece bytes from b))

-- ---- every byte

-- an unfinished number is one
abbrev pub Unfinished : Mode → Type 0
Unfinished (Number part ds from) = InPart part ds
Unfinished _ = Unit {0}

step_fine : (k : List Frame) (mode : Mode) (n b : ℕ) → Unfinished mode → Fine k mode (step_in k mode n b)
step_fine k Value n b u = begin_fine k Value n b tt
step_fine k First n b u = first_fine k n b
step_fine k FirstName n b u = unbroken k FirstName _ (first_name_leaves k n b)
step_fine k Name n b u = unbroken k Name _ (name_leaves k Name n b tt)
step_fine k Colon n b u = unbroken k Colon _ (colon_leaves k b)
step_fine k (Word x) n b u = unbroken k (Word x) _ (word_leaves k x b)
step_fine k (Number part ds from) n b u = number_fine k part ds from b u
step_fine k (Quoted is_name piece bytes from) n b u = quoted_fine k is_name piece bytes from b
step_fine k (After v) n b u = unbroken k (After v) _ (after_leaves k v b)

pub step_good : (k : List Frame) (mode : Mode) (n b : ℕ) (t : State) → Unfinished mode → (step_in k mode n b).next ≡ Some t → GoodState k mode → (step_in k mode n b).breaks ≡ None → GoodTo t
step_good k mode n b t u e g h = (step_fine k mode n b u t e).from (record { good = g; none = h })

pub good_step : (k : List Frame) (mode : Mode) (n b : ℕ) (t : State) → Unfinished mode → (step_in k mode n b).next ≡ Some t → GoodTo t → GoodState k mode × ((step_in k mode n b).breaks ≡ None)
good_step k mode n b t u e g = let a = (step_fine k mode n b u t e).to g in (a.good, a.none)

-- ---- the end

outermost : (v : Json) → Alike (GoodAt 0 v) (GoodState [] (After v))
outermost v = record { to = λ g. record { stack = tt; few = omega arith; value = g }; from = λ g. g.value }

end_fine : (k : List Frame) (mode : Mode) (v : Json) → Unfinished mode → end_value_in k mode ≡ Some v → Alike (GoodAt 0 v) (Allowed k mode (end_breaks_in mode))
end_fine k Value v u e = absurd cc
end_fine k First v u e = absurd cc
end_fine k FirstName v u e = absurd cc
end_fine k Name v u e = absurd cc
end_fine k Colon v u e = absurd cc
end_fine k (Word x) v u e = absurd cc
end_fine k (Quoted is_name piece bytes from) v u e = absurd cc
end_fine (f ∷ k) (Number part ds from) v u e = absurd cc
end_fine [] (Number part ds from) v u e = alike_then (outermost v) (number_over [] part ds from v u e)
end_fine (f ∷ k) (After x) v u e = absurd cc
end_fine [] (After x) v u e = subst (λ (y : Json). Alike (GoodAt 0 y) (Allowed [] (After x) None)) (some_is x v e) (record { to = λ g. record { good = (outermost x).to g; none = refl }; from = λ a. a.good.value })

pub end_good : (k : List Frame) (mode : Mode) (v : Json) → Unfinished mode → end_value_in k mode ≡ Some v → GoodState k mode → end_breaks_in mode ≡ None → GoodAt 0 v
end_good k mode v u e g h = (end_fine k mode v u e).from (record { good = g; none = h })

pub good_end : (k : List Frame) (mode : Mode) (v : Json) → Unfinished mode → end_value_in k mode ≡ Some v → GoodAt 0 v → GoodState k mode × (end_breaks_in mode ≡ None)
good_end k mode v u e g = let a = (end_fine k mode v u e).to g in (a.good, a.none)

pub start_good : GoodState [] Value
start_good = record { stack = tt; few = omega arith; value = tt }
