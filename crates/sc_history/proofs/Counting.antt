-- The names of the parts that stand are those of the parts that have items, and there is one list of them.
use Rattle.std.proofs.Common.{◌≡◌, ◌↔◌, zero, suc, Bool, true, false, cond, List, [], ◌∷◌, map, Option, Some, None, refl, sym, ap, ◌∙◌, subst, arith, Less, Equal, Contains}
use Rattle.std.specs.List.{AllByRecursion}
use Rattle.std.proofs.lemmas.Cmp.{tied_itself}
use Rattle.sqlite_trees.specs.Tree.{IsAscending}
use Rattle.sqlite_keyed.proofs.ListLemmas.{ascending-map}
use Rattle.sc_cut.specs.declared.name.PartName.{PartName}
use Rattle.sc_history.specs.Content.{Content}
use Rattle.sc_history.specs.Changes.{Change}
use Rattle.sc_history.specs.Names.{ArePartsOf, is_empty, is_name, name_order, part_of}
use Rattle.sc_history.specs.History.{replay}
use Rattle.sc_history.specs.Part.{Part, lookup}
use Rattle.sc_history.specs.Sound.{Stand, Stands}
use Rattle.sc_history.proofs.Texts.{never}
use Rattle.sc_history.proofs.Lists.{ascending_from_pairs, pairs_from_ascending}
use Rattle.sc_history.proofs.Names.{name_self, name_total, same_name}
use Rattle.sc_history.proofs.Scans.{scan_empty}

pub contains_head : {X : Type 0} (x : X) (xs : List X) → Contains (x ∷ xs) x
contains_head x xs = (0, omega arith, refl)

pub contains_tail : {X : Type 0} (y x : X) (xs : List X) → Contains xs x → Contains (y ∷ xs) x
contains_tail y x xs (k, lt, is) = (suc k, omega (arith, lt), is)

pub contains_cases : {X R : Type 0} (y x : X) (xs : List X) → Contains (y ∷ xs) x → (y ≡ x → R) → (Contains xs x → R) → R
contains_cases y x xs (zero, lt, is) first rest = first is
contains_cases y x xs (suc k, lt, is) first rest = rest (k, omega (arith, lt), is)

-- ---- found by name, and contained

found_contained : (parts : List Part) (name : PartName) (part : Part) → lookup name parts ≡ Some part → Contains (map (λ p. p.name) parts) name
found_contained [] name part e = absurd cc
found_contained (p ∷ parts) name part e = go (is_name p.name name) refl (found_contained parts name part) e
  where
    go : (b : Bool) → is_name p.name name ≡ b → (lookup name parts ≡ Some part → Contains (map (λ q. q.name) parts) name) → cond b (Some p) (lookup name parts) ≡ Some part → Contains (p.name ∷ map (λ q. q.name) parts) name
    go true is more e = subst (Contains (p.name ∷ map (λ q. q.name) parts)) (same_name p.name name is) (contains_head p.name (map (λ q. q.name) parts))
    go false is more e = contains_tail p.name name (map (λ q. q.name) parts) (more e)

none_absent : (parts : List Part) (name : PartName) → lookup name parts ≡ None → Contains (map (λ p. p.name) parts) name → ⊥
none_absent [] name e (k, lt, is) = absurd (omega (arith, lt))
none_absent (p ∷ parts) name e there = go (is_name p.name name) refl (none_absent parts name) e
  where
    go : (b : Bool) → is_name p.name name ≡ b → (lookup name parts ≡ None → Contains (map (λ q. q.name) parts) name → ⊥) → cond b (Some p) (lookup name parts) ≡ None → ⊥
    go true is more e = cc
    go false is more e = contains_cases p.name name (map (λ q. q.name) parts) there (λ same. never (is_name p.name name) (subst (λ n. is_name p.name n ≡ true) same (name_self p.name)) is) (more e)

-- the names of the parts that stand
pub stand_parts : (past : List Change) (parts : List Part) → Stand past parts → ArePartsOf (replay past) (map (λ p. p.name) parts)
stand_parts past parts stand = record {
  rise = pairs_from_ascending (λ a b. name_order a b ≡ Less) _ (ascending-map (λ a b. name_order a b ≡ Less) (λ p. p.name) parts (ascending_from_pairs (λ p q. name_order p.name q.name ≡ Less) parts stand.rise));
  all = λ name. go name (lookup name parts) refl (stand.each name);
}
  where
    go : (name : PartName) (o : Option Part) → lookup name parts ≡ o → Stands past name o → Contains (map (λ p. p.name) parts) name ↔ (is_empty (part_of (replay past) name) ≡ false)
    go name None e none = (λ there. absurd (none_absent parts name e there), λ some. never (is_empty (part_of (replay past) name)) (ap is_empty none) some)
    go name (Some part) e old =
        (λ _. sym (scan_empty (part_of (replay past) name)) ∙ ap is_empty (sym old.items_are) ∙ old.some, λ _. found_contained parts name part e)

-- ---- one list of names

abbrev pub Rises : PartName → PartName → Type 0
Rises a b = name_order a b ≡ Less

pub above_head : (x y : PartName) (xs : List PartName) → AllByRecursion (Rises x) xs → Contains xs y → name_order x y ≡ Less
above_head x y [] all (k, lt, is) = absurd (omega (arith, lt))
above_head x y (z ∷ xs) all there = contains_cases z y xs there (λ same. subst (Rises x) same all.0) (above_head x y xs all.1)

pub not_itself : {R : Type 0} (x : PartName) → name_order x x ≡ Less → R
not_itself x e = let tied : name_order x x ≡ Equal = tied_itself name_total x in absurd cc

not_both : {R : Type 0} (x y : PartName) → name_order x y ≡ Less → name_order y x ≡ Less → R
not_both x y a b = not_itself x (name_total.trans x y x a b)

pub nothing_in : {R : Type 0} (name : PartName) → Contains [] name → R
nothing_in name (k, lt, is) = absurd (omega (arith, lt))

same_head : (x y : PartName) (xs ys : List PartName) → AllByRecursion (Rises x) xs → AllByRecursion (Rises y) ys → Contains (y ∷ ys) x → Contains (x ∷ xs) y → x ≡ y
same_head x y xs ys up up' there there' =
    contains_cases y x ys there (λ e. sym e) (λ later. contains_cases x y xs there' (λ e. e) (λ later'. not_both y x (above_head y x ys up' later) (above_head x y xs up later')))

behind : (x y name : PartName) (xs ys : List PartName) → x ≡ y → AllByRecursion (Rises x) xs → (Contains (x ∷ xs) name → Contains (y ∷ ys) name) → Contains xs name → Contains ys name
behind x y name xs ys same up whole there =
    contains_cases y name ys (whole (contains_tail x name xs there)) (λ e. not_itself x (subst (λ n. name_order x n ≡ Less) (sym (same ∙ e)) (above_head x name xs up there))) (λ later. later)

-- two rising lists with the same names are one
pub one_list_of_names : (xs ys : List PartName) → IsAscending Rises xs → IsAscending Rises ys → ((name : PartName) → Contains xs name ↔ Contains ys name) → xs ≡ ys
one_list_of_names [] [] up up' same = refl
one_list_of_names [] (y ∷ ys) up up' same = nothing_in y ((same y).1 (contains_head y ys))
one_list_of_names (x ∷ xs) [] up up' same = nothing_in x ((same x).0 (contains_head x xs))
one_list_of_names (x ∷ xs) (y ∷ ys) up up' same =
    let first = same_head x y xs ys up.0 up'.0 ((same x).0 (contains_head x xs)) ((same y).1 (contains_head y ys)) in
    let rest = one_list_of_names xs ys up.1 up'.1 (λ name. (behind x y name xs ys first up.0 (same name).0, behind y x name ys xs (sym first) up'.0 (same name).1)) in
    λ i. first i ∷ rest i

pub one_list_of_parts : (content : Content) (names others : List PartName) → ArePartsOf content names → ArePartsOf content others → names ≡ others
one_list_of_parts content names others a b =
    one_list_of_names names others (ascending_from_pairs Rises names a.rise) (ascending_from_pairs Rises others b.rise)
    (λ name. (λ there. (b.all name).1 ((a.all name).0 there), λ there. (a.all name).1 ((b.all name).0 there)))
