-- The next token picks one alternative: what the table of first classes has of a rule is told apart by the class.
use Rattle.std.proofs.Common.{◌≡◌, ◌⊎◌, inl, inr, ℕ, List, [], ◌∷◌, ◌++◌, Option, Some, Bool, true, false, refl, sym, ap, subst, ◌∙◌}
use Rattle.std.specs.Prelude.{◌&&◌, ◌||◌, not, ◌==◌, find, if◌then◌else◌}
use Rattle.std.proofs.lemmas.Bool.{eqb-true, eq-eqb}
use Rattle.sc_grammar.specs.Classes.{In, when, is_in, nullable, firsts}
use Rattle.sc_grammar.proofs.Sets.{both_true, true_both, in_left, in_right, when_in}
use Rattle.sc_grammar.specs.declared.token.Class.{Class}
use Rattle.sc_grammar.specs.declared.token.Class.TheVariants as classes
use Rattle.sc_cqlgrammar.specs.declared.rule.Rule.{Rule}
use Rattle.sc_cqlgrammar.specs.Rules.{Items}
use Rattle.sc_cqlgrammar.specs.Table.{number_of, same, starts, is_empty, follows, is_picked}

abbrev class_numbered : ℕ → Class
class_numbered i =
    if i == 0 then classes.Or else
    if i == 1 then classes.And else
    if i == 2 then classes.Not else
    if i == 3 then classes.Like else
    if i == 4 then classes.Between else
    if i == 5 then classes.In else
    if i == 6 then classes.Is else
    if i == 7 then classes.Null else
    if i == 8 then classes.True else
    if i == 9 then classes.False else
    if i == 10 then classes.Casei else
    if i == 11 then classes.SIntersects else
    if i == 12 then classes.Timestamp else
    if i == 13 then classes.Date else
    if i == 14 then classes.Bbox else
    if i == 15 then classes.Point else
    if i == 16 then classes.LineString else
    if i == 17 then classes.Polygon else
    if i == 18 then classes.MultiPoint else
    if i == 19 then classes.MultiLineString else
    if i == 20 then classes.MultiPolygon else
    if i == 21 then classes.GeometryCollection else
    if i == 22 then classes.Z else
    if i == 23 then classes.Name else
    if i == 24 then classes.QuotedName else
    if i == 25 then classes.Text else
    if i == 26 then classes.Number else
    if i == 27 then classes.Equal else
    if i == 28 then classes.NotEqual else
    if i == 29 then classes.Less else
    if i == 30 then classes.Greater else
    if i == 31 then classes.AtMost else
    if i == 32 then classes.AtLeast else
    if i == 33 then classes.Opening else
    if i == 34 then classes.Closing else
    if i == 35 then classes.Comma else
    if i == 36 then classes.Bad else
    classes.End

numbered : (c : Class) → class_numbered (number_of c) ≡ c
numbered classes.Or = refl
numbered classes.And = refl
numbered classes.Not = refl
numbered classes.Like = refl
numbered classes.Between = refl
numbered classes.In = refl
numbered classes.Is = refl
numbered classes.Null = refl
numbered classes.True = refl
numbered classes.False = refl
numbered classes.Casei = refl
numbered classes.SIntersects = refl
numbered classes.Timestamp = refl
numbered classes.Date = refl
numbered classes.Bbox = refl
numbered classes.Point = refl
numbered classes.LineString = refl
numbered classes.Polygon = refl
numbered classes.MultiPoint = refl
numbered classes.MultiLineString = refl
numbered classes.MultiPolygon = refl
numbered classes.GeometryCollection = refl
numbered classes.Z = refl
numbered classes.Name = refl
numbered classes.QuotedName = refl
numbered classes.Text = refl
numbered classes.Number = refl
numbered classes.Equal = refl
numbered classes.NotEqual = refl
numbered classes.Less = refl
numbered classes.Greater = refl
numbered classes.AtMost = refl
numbered classes.AtLeast = refl
numbered classes.Opening = refl
numbered classes.Closing = refl
numbered classes.Comma = refl
numbered classes.Bad = refl
numbered classes.End = refl

pub same_is : (a b : Class) → same a b ≡ true → a ≡ b
same_is a b e = sym (numbered a) ∙ ap class_numbered (eqb-true (number_of a) (number_of b) e) ∙ numbered b

same_self : (a : Class) → same a a ≡ true
same_self a = eq-eqb (number_of a) (number_of a) refl

either_is : (a b : Bool) → (a || b) ≡ true → (a ≡ true) ⊎ (b ≡ true)
either_is true b e = inl refl
either_is false b e = inr e

left_is : (a b : Bool) → a ≡ true → (a || b) ≡ true
left_is true b e = refl
left_is false b e = absurd cc

right_is : (a b : Bool) → b ≡ true → (a || b) ≡ true
right_is true b e = refl
right_is false b e = e

pub in_is : (c : Class) (cs : List Class) → is_in same c cs ≡ true → In c cs
in_is c [] e = absurd cc
in_is c (d ∷ ds) e = elim (either_is (same c d) (is_in same c ds) e) [ inl h ↦ inl (same_is c d h) | inr h ↦ inr (in_is c ds h) ]

pub is_in-In : (c : Class) (cs : List Class) → In c cs → is_in same c cs ≡ true
is_in-In c [] i = absurd i
is_in-In c (d ∷ ds) (inl e) = left_is (same c d) (is_in same c ds) (subst (λ (x : Class). same c x ≡ true) e (same_self c))
is_in-In c (d ∷ ds) (inr i) = right_is (same c d) (is_in same c ds) (is_in-In c ds i)

-- ---- the classes that pick an alternative

abbrev pub Picks : Rule → Class → Items → Type 0
Picks n c items = In c (firsts starts is_empty items) ⊎ (nullable is_empty items ≡ true) × In c (follows n)

pub picked_In : (n : Rule) (c : Class) (items : Items) → is_picked n c items ≡ true → Picks n c items
picked_In n c items e =
    elim (either_is (is_in same c (firsts starts is_empty items)) (nullable is_empty items && is_in same c (follows n)) e) [
      | inl h ↦ inl (in_is c (firsts starts is_empty items) h)
      | inr h ↦
          let p = both_true (nullable is_empty items) (is_in same c (follows n)) h in
          inr (p.0, in_is c (follows n) p.1)
    ]

pub In_picked : (n : Rule) (c : Class) (items : Items) → Picks n c items → is_picked n c items ≡ true
In_picked n c items (inl i) = left_is (is_in same c (firsts starts is_empty items)) (nullable is_empty items && is_in same c (follows n)) (is_in-In c (firsts starts is_empty items) i)
In_picked n c items (inr i) = right_is (is_in same c (firsts starts is_empty items)) (nullable is_empty items && is_in same c (follows n)) (true_both (nullable is_empty items) (is_in same c (follows n)) i.0 (is_in-In c (follows n) i.1))

abbrev pub pickers : Rule → Items → List Class
pickers n items = firsts starts is_empty items ++ when (nullable is_empty items) (follows n)

pickers_In : (n : Rule) (c : Class) (items : Items) → Picks n c items → In c (pickers n items)
pickers_In n c items (inl i) = in_left c (firsts starts is_empty items) (when (nullable is_empty items) (follows n)) i
pickers_In n c items (inr i) = in_right c (firsts starts is_empty items) (when (nullable is_empty items) (follows n)) (when_in (nullable is_empty items) c (follows n) i.0 i.1)

-- whether no class is in both lists
abbrev pub are_apart : List Class → List Class → Bool
are_apart [] ys = true
are_apart (x ∷ xs) ys = not (is_in same x ys) && are_apart xs ys

apart_is : (xs ys : List Class) → are_apart xs ys ≡ true → (c : Class) → In c xs → In c ys → ⊥
apart_is [] ys e c i j = absurd i
apart_is (x ∷ xs) ys e c (inl h) j =
    let p = both_true (not (is_in same x ys)) (are_apart xs ys) e in
    let q : is_in same x ys ≡ true = is_in-In x ys (subst (λ (y : Class). In y ys) h j) in
    let r : true ≡ false = sym q ∙ not_is (is_in same x ys) p.0 in
    cc
  where
    not_is : (b : Bool) → not b ≡ true → b ≡ false
    not_is true f = absurd cc
    not_is false f = refl
apart_is (x ∷ xs) ys e c (inr i) j = apart_is xs ys (both_true (not (is_in same x ys)) (are_apart xs ys) e).1 c i j

-- whether no class picks two of the alternatives
abbrev pub each_apart : Rule → Items → List Items → Bool
each_apart n a [] = true
each_apart n a (b ∷ bs) = are_apart (pickers n a) (pickers n b) && each_apart n a bs

abbrev pub are_told_apart : Rule → List Items → Bool
are_told_apart n [] = true
are_told_apart n (a ∷ more) = each_apart n a more && are_told_apart n more

each_apart_is : (n : Rule) (a : Items) (bs : List Items) → each_apart n a bs ≡ true → (b : Items) → In b bs → (c : Class) → Picks n c a → Picks n c b → ⊥
each_apart_is n a [] e b i c p q = absurd i
each_apart_is n a (d ∷ bs) e b (inl h) c p q =
    let x = both_true (are_apart (pickers n a) (pickers n d)) (each_apart n a bs) e in
    apart_is (pickers n a) (pickers n d) x.0 c (pickers_In n c a p) (pickers_In n c d (subst (λ (y : Items). Picks n c y) h q))
each_apart_is n a (d ∷ bs) e b (inr i) c p q = each_apart_is n a bs (both_true (are_apart (pickers n a) (pickers n d)) (each_apart n a bs) e).1 b i c p q

abbrev found : Bool → Items → Option Items → Option Items
found b a other = if b then Some a else other

no_other : (b : Bool) (a : Items) (other : Option Items) → (b ≡ true → ⊥) → found b a other ≡ other
no_other true a other far = absurd (far refl)
no_other false a other far = refl

the_one : (b : Bool) (a : Items) (other : Option Items) → b ≡ true → found b a other ≡ Some a
the_one true a other e = refl
the_one false a other e = absurd cc

pub picked_is : (n : Rule) (c : Class) (more : List Items) → are_told_apart n more ≡ true → (a : Items) → In a more → Picks n c a → find (is_picked n c) more ≡ Some a
picked_is n c [] e a i p = absurd i
picked_is n c (b ∷ more) e a (inl h) p = rw h (the_one (is_picked n c b) b (find (is_picked n c) more) (In_picked n c b (subst (λ (y : Items). Picks n c y) h p)))
picked_is n c (b ∷ more) e a (inr i) p =
    let x = both_true (each_apart n b more) (are_told_apart n more) e in
    no_other (is_picked n c b) b (find (is_picked n c) more) (λ h. each_apart_is n b more x.0 a i c (picked_In n c b h) p) ∙ picked_is n c more x.1 a i p

abbrev some : Items → Option Items
some x = Some x

in_some : (x y : Items) → some x ≡ some y → x ≡ y
in_some x y e = cc

pub found_is : (n : Rule) (c : Class) (more : List Items) (a : Items) → find (is_picked n c) more ≡ Some a → In a more × Picks n c a
found_is n c [] a e = absurd cc
found_is n c (b ∷ more) a e = by_pick (is_picked n c b) refl e (found_is n c more a)
  where
    by_pick : (picked : Bool) → is_picked n c b ≡ picked → found picked b (find (is_picked n c) more) ≡ Some a → (find (is_picked n c) more ≡ Some a → In a more × Picks n c a) → In a (b ∷ more) × Picks n c a
    by_pick true h f later = let same_items = in_some b a f in (inl (sym same_items), subst (λ (y : Items). Picks n c y) same_items (picked_In n c b h))
    by_pick false h f later = let x = later f in (inr x.0, x.1)
