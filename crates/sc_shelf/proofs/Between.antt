-- Lists of parts in which one stands, or none, between those before and those after a name: what is found in them, and their order.
use Rattle.std.proofs.Common.{◌≡◌, Bool, true, false, List, [], ◌∷◌, ◌++◌, Option, Some, None, refl, sym, ◌∙◌, subst, Less}
use Rattle.std.specs.Prelude.{IfSome}
use Rattle.std.specs.List.{AllByRecursion}
use Rattle.std.specs.Option.{option_to_list}
use Rattle.sqlite_trees.specs.Tree.{IsAscending}
use Rattle.sqlite_keyed.proofs.ListLemmas.{all_weaker, ascending-append}
use Rattle.sc_cut.specs.declared.name.PartName.{PartName}
use Rattle.sc_history.specs.Names.{is_name, name_order}
use Rattle.sc_history.specs.Part.{Part, lookup}
use Rattle.sc_history.proofs.Names.{name_self, name_total, same_name}
use Rattle.sc_history.proofs.Counting.{not_itself}

abbrev pub Rises : Part → Part → Type 0
Rises a b = name_order a.name b.name ≡ Less

abbrev pub IsBelow : PartName → Part → Type 0
IsBelow name part = name_order part.name name ≡ Less

abbrev pub IsAbove : PartName → Part → Type 0
IsAbove name part = name_order name part.name ≡ Less

abbrev pub IsNamed : PartName → Option Part → Type 0
IsNamed name part = IfSome part (λ p. p.name ≡ name)

-- ---- lists of two

pub all_split : {X : Type 0} (P : X → Type 0) (xs ys : List X) → AllByRecursion P (xs ++ ys) → AllByRecursion P xs × AllByRecursion P ys
all_split P [] ys all = (tt, all)
all_split P (x ∷ xs) ys all = let rest = all_split P xs ys all.1 in ((all.0, rest.0), rest.1)

pub ascending_split : {X : Type 0} (R : X → X → Type 0) (xs ys : List X) → IsAscending R (xs ++ ys) → IsAscending R xs × IsAscending R ys
ascending_split R [] ys up = (tt, up)
ascending_split R (x ∷ xs) ys up = let rest = ascending_split R xs ys up.1 in (((all_split (R x) xs ys up.0).0, rest.0), rest.1)

-- ---- names

pub other_name : (a b : PartName) → name_order a b ≡ Less → is_name a b ≡ false
other_name a b less = go (is_name a b) refl
  where
    go : (t : Bool) → is_name a b ≡ t → is_name a b ≡ false
    go true e = not_itself b (subst (λ n. name_order n b ≡ Less) (same_name a b e) less)
    go false e = e

pub name_turn : (a b : PartName) → is_name a b ≡ is_name b a
name_turn a b = go (is_name a b) refl (is_name b a) refl
  where
    go : (s : Bool) → is_name a b ≡ s → (t : Bool) → is_name b a ≡ t → is_name a b ≡ is_name b a
    go true e t f = let same = same_name a b e in rw (same, name_self b) refl
    go false e true f = let same = same_name b a f in rw (same, name_self a) refl
    go false e false f = e ∙ sym f

-- ---- what is found

pub skipped : (name : PartName) (xs ys : List Part) → AllByRecursion (λ p. is_name p.name name ≡ false) xs → lookup name (xs ++ ys) ≡ lookup name ys
skipped name [] ys all = refl
skipped name (x ∷ xs) ys all = rw all.0 (skipped name xs ys all.1)

pub found_nowhere : (name : PartName) (xs : List Part) → AllByRecursion (λ p. is_name p.name name ≡ false) xs → lookup name xs ≡ None
found_nowhere name [] all = refl
found_nowhere name (x ∷ xs) all = rw all.0 (found_nowhere name xs all.1)

none_below : (name : PartName) (xs : List Part) → AllByRecursion (IsBelow name) xs → AllByRecursion (λ p. is_name p.name name ≡ false) xs
none_below name xs all = all_weaker (IsBelow name) (λ p. is_name p.name name ≡ false) (λ p low. other_name p.name name low) xs all

none_above : (name : PartName) (xs : List Part) → AllByRecursion (IsAbove name) xs → AllByRecursion (λ p. is_name p.name name ≡ false) xs
none_above name xs all = all_weaker (IsAbove name) (λ p. is_name p.name name ≡ false) (λ p high. name_turn p.name name ∙ other_name name p.name high) xs all

found_first : (name : PartName) (q : Option Part) (ys : List Part) → IsNamed name q → AllByRecursion (IsAbove name) ys → lookup name (option_to_list q ++ ys) ≡ q
found_first name None ys named above = found_nowhere name ys (none_above name ys above)
found_first name (Some p) ys named above = rw (named, name_self name) refl

-- the part between them is found by its name
pub found_between : (name : PartName) (xs : List Part) (q : Option Part) (ys : List Part) → AllByRecursion (IsBelow name) xs → IsNamed name q → AllByRecursion (IsAbove name) ys
    → lookup name (xs ++ (option_to_list q ++ ys)) ≡ q
found_between name xs q ys below named above = skipped name xs (option_to_list q ++ ys) (none_below name xs below) ∙ found_first name q ys named above

found_past : (name other : PartName) (q : Option Part) (ys : List Part) → IsNamed name q → is_name name other ≡ false → lookup other (option_to_list q ++ ys) ≡ lookup other ys
found_past name other None ys named ne = refl
found_past name other (Some p) ys named ne = rw (named, ne) refl

-- and by another name what is found without it
pub found_other : (name other : PartName) (xs : List Part) (q : Option Part) (ys : List Part) → IsNamed name q → is_name name other ≡ false
    → lookup other (xs ++ (option_to_list q ++ ys)) ≡ lookup other (xs ++ ys)
found_other name other [] q ys named ne = found_past name other q ys named ne
found_other name other (x ∷ xs) q ys named ne = rw (found_other name other xs q ys named ne) refl

-- ---- order

above_first : (name : PartName) (p : Part) (ys : List Part) → p.name ≡ name → AllByRecursion (IsAbove name) ys → AllByRecursion (Rises p) ys
above_first name p ys named above = subst (λ n. AllByRecursion (IsAbove n) ys) (sym named) above

rises_first : (name : PartName) (q : Option Part) (ys : List Part) → IsNamed name q → AllByRecursion (IsAbove name) ys → IsAscending Rises ys → IsAscending Rises (option_to_list q ++ ys)
rises_first name None ys named above up = up
rises_first name (Some p) ys named above up = (above_first name p ys named above, up)

below_all : (name : PartName) (x : Part) (q : Option Part) (ys : List Part) → IsBelow name x → IsNamed name q → AllByRecursion (IsAbove name) ys → AllByRecursion (Rises x) (option_to_list q ++ ys)
below_all name x None ys low named above = all_weaker (IsAbove name) (Rises x) (λ y high. name_total.trans x.name name y.name low high) ys above
below_all name x (Some p) ys low named above =
    (subst (λ n. name_order x.name n ≡ Less) (sym named) low, all_weaker (IsAbove name) (Rises x) (λ y high. name_total.trans x.name name y.name low high) ys above)

-- whichever part stands between them, or none, the names rise
pub rise_between : (name : PartName) (xs : List Part) (q : Option Part) (ys : List Part) → AllByRecursion (IsBelow name) xs → IsNamed name q → AllByRecursion (IsAbove name) ys → IsAscending Rises xs → IsAscending Rises ys
    → IsAscending Rises (xs ++ (option_to_list q ++ ys))
rise_between name xs q ys below named above up up' =
    ascending-append Rises xs (option_to_list q ++ ys) up (rises_first name q ys named above up')
    (all_weaker (IsBelow name) (λ x. AllByRecursion (Rises x) (option_to_list q ++ ys)) (λ x low. below_all name x q ys low named above) xs below)

pub rise_after : (q : Option Part) (ys : List Part) → IsAscending Rises (option_to_list q ++ ys) → IsAscending Rises ys
rise_after None ys up = up
rise_after (Some p) ys up = up.1
