-- What stands in a good tree is good, and shallower.
use Rattle.std.proofs.Common.{◌≡◌, ℕ, ◌≤◌, ◌+◌, List, [], ◌∷◌, true, false, cond, Bool, Option, Some, None, sym, subst, arith, nat_eq}
use Rattle.std.specs.Prelude.{IfSome}
use Rattle.std.specs.List.{AllByRecursion}
use Rattle.std.specs.Cmp.Lexicographic.{pointwise}
use Rattle.sc_json.specs.declared.tree.Json.{Json}
use Rattle.sc_json.specs.declared.tree.Json.TheVariants as trees
use Rattle.sc_json.specs.declared.tree.Member.{Member, out-Member}
use Rattle.sc_json.specs.Good.{depth, Good}
use Rattle.sc_json.specs.Member.{value_in}
use Rattle.sc_json.proofs.GoodTrees.{GoodAt, GoodValue, list_good, object_good}
use Rattle.sc_script.specs.Step.{StandsWithin}

at_good : (tree : Json) → Good tree → GoodAt 0 tree
at_good tree g = let shallow : depth tree ≤ 64 = g.shallow in record { levels = g.levels; within = omega (arith, shallow) }

stands : (n : ℕ) (v : Json) → GoodAt n v → StandsWithin n v
stands n v g = let within : depth v + n ≤ 64 = g.within in record { good = record { levels = g.levels; shallow = omega (arith, within) }; shallow = within }

good_value : (n : ℕ) (ms : List Member) (name : List ℕ) (v : Json) → AllByRecursion (GoodValue n) ms → value_in ms name ≡ Some v → GoodAt n v
good_value n [] name v all e = absurd cc
good_value n (m ∷ ms) name v all e = by (pointwise nat_eq (out-Member m).name name) (good_value n ms name v all.1) e
  where
    by : (b : Bool) → (value_in ms name ≡ Some v → GoodAt n v) → cond b (Some (out-Member m).value) (value_in ms name) ≡ Some v → GoodAt n v
    by true later e = let is : (out-Member m).value ≡ v = cc in subst (GoodAt n) is all.0.value
    by false later e = later e

-- a member of a good tree
pub members_good : (tree : Json) (ms : List Member) (name : List ℕ) (value : Option Json) → tree ≡ trees.Object ms → value ≡ value_in ms name → Good tree → IfSome value (StandsWithin 1)
members_good tree ms name None same e g = tt
members_good tree ms name (Some v) same e g =
    let o = object_good 0 ms (subst (GoodAt 0) same (at_good tree g)) in
    stands 1 v (good_value 1 ms name v o.0.all (sym e))

each_stands : (vs : List Json) → AllByRecursion (GoodAt 2) vs → AllByRecursion (StandsWithin 2) vs
each_stands [] all = all
each_stands (v ∷ vs) all = (stands 2 v all.0, each_stands vs all.1)

-- the elements of a list that stands in a good tree
pub elements_good : (tree : Json) (vs : List Json) → tree ≡ trees.List vs → StandsWithin 1 tree → AllByRecursion (StandsWithin 2) vs
elements_good tree vs same s = each_stands vs (list_good 1 vs (subst (GoodAt 1) same (record { levels = s.good.levels; within = s.shallow }))).0
