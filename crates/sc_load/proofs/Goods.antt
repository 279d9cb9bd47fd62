-- What stands in a good tree is good.
use Rattle.std.proofs.Common.{◌≡◌, ℕ, ◌≤◌, ◌+◌, List, [], ◌∷◌, Bool, true, false, cond, Option, Some, None, refl, ap, sym, subst, ◌∙◌, arith, nat_eq}
use Rattle.std.specs.List.{All, AllByRecursion}
use Rattle.std.specs.Option.{option_and_then}
use Rattle.std.specs.Cmp.Lexicographic.{pointwise}
use Rattle.std.proofs.lemmas.List.Elements.{All-nil, All-cons}
use Rattle.sc_json.specs.declared.tree.Json.{Json}
use Rattle.sc_json.specs.declared.tree.Json.TheVariants as trees
use Rattle.sc_json.specs.declared.tree.Json.TheOpen as layer
use Rattle.sc_json.specs.declared.tree.Json.TheOpen.{Json-F}
use Rattle.sc_json.specs.declared.tree.Json.TheViews.{out-Json, roll-Json, roll-out-Json}
use Rattle.sc_json.specs.declared.tree.Member.{Member, out-Member}
use Rattle.sc_json.specs.Good.{depth, Good}
use Rattle.sc_json.specs.Member.{value_in, members_of, member_value}
use Rattle.sc_json.proofs.GoodTrees.{GoodAt, GoodValue, list_good, object_good}
use Rattle.sc_geom.specs.Tree.{list_in, list_of}
use Rattle.sc_item.specs.Words.{type_name}
use Rattle.sc_item.specs.Trees.{text_member}
use Rattle.sc_item.proofs.Extending.{at_good}
use Rattle.sc_load.specs.Words.{features_name, several_word}
use Rattle.sc_load.specs.Features.{is_word, features_of}

good_value : (n : ℕ) (ms : List Member) (name : List ℕ) (v : Json) → AllByRecursion (GoodValue n) ms → value_in ms name ≡ Some v → GoodAt n v
good_value n [] name v all e = absurd cc
good_value n (m ∷ ms) name v all e = by (pointwise nat_eq (out-Member m).name name) (good_value n ms name v all.1) e
  where
    by : (b : Bool) → (value_in ms name ≡ Some v → GoodAt n v) → cond b (Some (out-Member m).value) (value_in ms name) ≡ Some v → GoodAt n v
    by true later e = let is : (out-Member m).value ≡ v = cc in subst (GoodAt n) is all.0.value
    by false later e = later e

good_member : (tree : Json) (name : List ℕ) (v : Json) → Good tree → member_value tree name ≡ Some v → GoodAt 1 v
good_member tree name v g e = by (out-Json tree) refl e
  where
    by : (l : Json-F Json Member) → out-Json tree ≡ l → value_in (members_of l) name ≡ Some v → GoodAt 1 v
    by layer.Null is e = absurd cc
    by (layer.Truth b) is e = absurd cc
    by (layer.Number m) is e = absurd cc
    by (layer.Text t) is e = absurd cc
    by (layer.List vs) is e = absurd cc
    by (layer.Object ms) is e =
        let same : tree ≡ trees.Object ms = sym (roll-out-Json tree) ∙ ap roll-Json is ∙ trees.rolls-Object ms in
        let o = object_good 0 ms (subst (GoodAt 0) same (at_good tree g)) in
        good_value 1 ms name v o.0.all e

each_good : (vs : List Json) → AllByRecursion (GoodAt 2) vs → All Good vs
each_good [] all = All-nil Good
each_good (v ∷ vs) all =
    let within : depth v + 2 ≤ 64 = all.0.within in
    All-cons Good v vs (record { levels = all.0.levels; shallow = omega (arith, within) }) (each_good vs all.1)

good_elements : (v : Json) (vs : List Json) → GoodAt 1 v → list_of v ≡ Some vs → All Good vs
unfolding list_of
good_elements v vs g e = by (out-Json v) refl e
  where
    by : (l : Json-F Json Member) → out-Json v ≡ l → list_in l ≡ Some vs → All Good vs
    by layer.Null is e = absurd cc
    by (layer.Truth b) is e = absurd cc
    by (layer.Number m) is e = absurd cc
    by (layer.Text t) is e = absurd cc
    by (layer.Object ms) is e = absurd cc
    by (layer.List xs) is e =
        let same : v ≡ trees.List xs = sym (roll-out-Json v) ∙ ap roll-Json is ∙ trees.rolls-List xs in
        let each = list_good 1 xs (subst (GoodAt 1) same g) in
        let all : xs ≡ vs = cc in
        subst (All Good) all (each_good xs each.0)

good_of : (tree : Json) (o : Option Json) (vs : List Json) → Good tree → member_value tree features_name ≡ o → option_and_then list_of o ≡ Some vs → All Good vs
good_of tree None vs g is e = absurd cc
good_of tree (Some v) vs g is e = good_elements v vs (good_member tree features_name v g is) e

pub good_features : (tree : Json) (vs : List Json) → Good tree → features_of tree ≡ Some vs → All Good vs
unfolding features_of
good_features tree vs g e = by (is_word several_word (text_member tree type_name)) e
  where
    by : (b : Bool) → cond b (option_and_then list_of (member_value tree features_name)) None ≡ Some vs → All Good vs
    by true e = good_of tree (member_value tree features_name) vs g refl e
    by false e = absurd cc

-- the features are the elements of that member
listed : (tree : Json) (vs : List Json) → features_of tree ≡ Some vs → option_and_then list_of (member_value tree features_name) ≡ Some vs
unfolding features_of
listed tree vs e = by (is_word several_word (text_member tree type_name)) e
  where
    by : (b : Bool) → cond b (option_and_then list_of (member_value tree features_name)) None ≡ Some vs → option_and_then list_of (member_value tree features_name) ≡ Some vs
    by true e = e
    by false e = absurd cc

pub listed_by : (tree : Json) (name : List ℕ) (vs : List Json) (r : Option (List Json)) → features_of tree ≡ Some vs → r ≡ option_and_then list_of (member_value tree name) → name ≡ features_name → r ≡ Some vs
listed_by tree name vs r e is same = is ∙ ap (λ (n : List ℕ). option_and_then list_of (member_value tree n)) same ∙ listed tree vs e

pub not_listed : (r : Option (List Json)) (vs : List Json) → r ≡ Some vs → r ≡ None → ⊥
not_listed r vs p q = absurd cc
