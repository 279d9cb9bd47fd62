-- A tree with its collection as the last member is good.
use Rattle.std.proofs.Common.{◌≡◌, ℕ, ◌≤◌, ◌+◌, List, [], ◌∷◌, ◌++◌, Option, Some, None, refl, ap, sym, subst, ◌∙◌, arith, IsUtf8}
use Rattle.sc_json.specs.declared.tree.Json.{Json}
use Rattle.sc_json.specs.declared.tree.Json.TheVariants as trees
use Rattle.sc_json.specs.declared.tree.Json.TheOpen as layer
use Rattle.sc_json.specs.declared.tree.Json.TheOpen.{Json-F}
use Rattle.sc_json.specs.declared.tree.Json.TheViews.{out-Json, roll-Json, roll-out-Json, out-roll-Json}
use Rattle.sc_json.specs.declared.tree.Member.{Member}
use Rattle.sc_json.specs.Grammar.{member}
use Rattle.sc_json.specs.Good.{depth, Good}
use Rattle.sc_json.specs.Member.{value_in, members_of, member_value}
use Rattle.sc_json.proofs.GoodTrees.{GoodAt, good_object, object_good, members_push, good_text}
use Rattle.sc_item.specs.Words.{collection_name, properties_name}
use Rattle.sc_item.specs.Trees.{extended, extended_in, with_member, with_collection, members_in, members_of_value, properties_in}
use Rattle.sc_item.proofs.Members.{no_name}

pub at_good : (v : Json) → Good v → GoodAt 0 v
at_good v g = let shallow : depth v ≤ 64 = g.shallow in record { levels = g.levels; within = omega (arith, shallow) }

pub good_at : (v : Json) → GoodAt 0 v → Good v
good_at v g = let within : depth v + 0 ≤ 64 = g.within in record { levels = g.levels; shallow = omega (arith, within) }

-- the members of an object
pub out_object : (ms : List Member) → out-Json (trees.Object ms) ≡ layer.Object ms
out_object ms = ap out-Json (sym (trees.rolls-Object ms)) ∙ out-roll-Json (layer.Object ms)

pub good_extended : (tree : Json) (name text : List ℕ) → Good tree → value_in (members_of (out-Json tree)) name ≡ None → IsUtf8 name → IsUtf8 text →
    Good (extended tree (member name (trees.Text text)))
unfolding extended
good_extended tree name text g none u v = by (out-Json tree) refl none
  where
    by : (l : Json-F Json Member) → out-Json tree ≡ l → value_in (members_of l) name ≡ None → Good (extended_in l tree (member name (trees.Text text)))
    by layer.Null e n = g
    by (layer.Truth b) e n = g
    by (layer.Number m) e n = g
    by (layer.Text t) e n = g
    by (layer.List vs) e n = g
    by (layer.Object ms) e n =
        let is : tree ≡ trees.Object ms = sym (roll-out-Json tree) ∙ ap roll-Json e ∙ trees.rolls-Object ms in
        let o = object_good 0 ms (subst (GoodAt 0) is (at_good tree g)) in
        good_at (trees.Object (ms ++ member name (trees.Text text) ∷ [])) (good_object 0 (ms ++ member name (trees.Text text) ∷ [])
        (members_push 1 ms name (trees.Text text) o.0 (no_name ms name n) u (good_text text v 1 (omega arith))) (omega arith))

-- ---- a tree that has a collection, and one that hasn't

pub has_one : (collection : List ℕ) (tree value : Json) → member_value tree collection_name ≡ Some value → tree ≡ with_collection collection tree
unfolding with_collection
has_one collection tree value e = sym (ap (λ (o : Option Json). with_member o tree (member collection_name (trees.Text collection))) e)

pub has_none : (collection : List ℕ) (tree : Json) → member_value tree collection_name ≡ None → extended tree (member collection_name (trees.Text collection)) ≡ with_collection collection tree
unfolding with_collection
has_none collection tree e = sym (ap (λ (o : Option Json). with_member o tree (member collection_name (trees.Text collection))) e)

-- ---- the properties

pub no_properties : (tree : Json) (ms : List Member) → ms ≡ members_in tree → value_in ms properties_name ≡ None → [] ≡ properties_in tree
unfolding members_in properties_in
no_properties tree ms e v = sym (ap members_of_value (ap (λ (x : List Member). value_in x properties_name) (sym e) ∙ v))

pub properties_are : (tree value : Json) (ms found : List Member) → ms ≡ members_in tree → value_in ms properties_name ≡ Some value → found ≡ members_in value → found ≡ properties_in tree
unfolding members_in properties_in
properties_are tree value ms found e v f = f ∙ sym (ap members_of_value (ap (λ (x : List Member). value_in x properties_name) (sym e) ∙ v))
