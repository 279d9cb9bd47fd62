-- The arguments of a call have fewer values than the call, so that reading them comes to an end.
use Rattle.std.proofs.Common.{◌≡◌, ℕ, zero, suc, ◌+◌, ◌≤◌, ◌<◌, Bool, true, false, cond, List, [], ◌∷◌, length, get_or, map, sum, Option, Some, None, refl, sym, ap, ◌∙◌, arith}
use Rattle.std.specs.Prelude.{nat_eq}
use Rattle.std.specs.Option.{option_and_then}
use Rattle.std.specs.Cmp.Lexicographic.{pointwise}
use Rattle.std.proofs.lemmas.List.Sums.{sum_by-cons}
use Rattle.sc_json.specs.declared.tree.Json.{Json}
use Rattle.sc_json.specs.declared.tree.Json.TheVariants as trees
use Rattle.sc_json.specs.declared.tree.Json.TheOpen as layer
use Rattle.sc_json.specs.declared.tree.Json.TheOpen.{Json-F}
use Rattle.sc_json.specs.declared.tree.Json.TheViews.{out-Json, roll-Json, roll-out-Json}
use Rattle.sc_json.specs.declared.tree.Member.{Member, out-Member}
use Rattle.sc_json.specs.Member.{members_of, value_in, member_value}
use Rattle.sc_json.specs.Views.{list_in, list_of, values}
use Rattle.sc_cqljson.specs.Words.{args_name}
use Rattle.sc_cqljson.specs.Heads.{args_of}
use Rattle.sc_cqljson.proofs.Counts.{list_values, object_values}

abbrev in_member : Member → ℕ
in_member m = values (out-Member m).value

chosen_within : (b : Bool) (m : Member) (ms : List Member) (later : Option Json) (v : Json) → cond b (Some (out-Member m).value) later ≡ Some v →
    (later ≡ Some v → values v ≤ sum (map in_member ms)) → values v ≤ sum (map in_member (m ∷ ms))
chosen_within true m ms later v e rest =
    let s : (out-Member m).value ≡ v = cc in
    omega (arith, sum_by-cons (λ n. n) (in_member m) (map in_member ms), ap values s)
chosen_within false m ms later v e rest = omega (arith, sum_by-cons (λ n. n) (in_member m) (map in_member ms), rest e)

value_within : (ms : List Member) (name : List ℕ) (v : Json) → value_in ms name ≡ Some v → values v ≤ sum (map in_member ms)
value_within [] name v e = absurd cc
value_within (m ∷ ms) name v e = chosen_within (pointwise nat_eq (out-Member m).name name) m ms (value_in ms name) v e (value_within ms name v)

object_within : (tree : Json) (level : Json-F Json Member) (name : List ℕ) (v : Json) → tree ≡ roll-Json level → value_in (members_of level) name ≡ Some v → 1 + values v ≤ values tree
object_within tree layer.Null name v t e = absurd cc
object_within tree (layer.Truth b) name v t e = absurd cc
object_within tree (layer.Number n) name v t e = absurd cc
object_within tree (layer.Text u) name v t e = absurd cc
object_within tree (layer.List xs) name v t e = absurd cc
object_within tree (layer.Object ms) name v t e = omega (arith, ap values (t ∙ trees.rolls-Object ms), object_values ms, value_within ms name v e)

list_counted : (tree : Json) (level : Json-F Json Member) (xs : List Json) → tree ≡ roll-Json level → list_in level ≡ Some xs → values tree ≡ 1 + sum (map values xs)
list_counted tree layer.Null xs t e = absurd cc
list_counted tree (layer.Truth b) xs t e = absurd cc
list_counted tree (layer.Number n) xs t e = absurd cc
list_counted tree (layer.Text u) xs t e = absurd cc
list_counted tree (layer.List ys) xs t e = let s : ys ≡ xs = cc in ap values (t ∙ trees.rolls-List ys) ∙ list_values ys ∙ ap (λ (zs : List Json). 1 + sum (map values zs)) s
list_counted tree (layer.Object ms) xs t e = absurd cc

pub listed_values : (tree : Json) (xs : List Json) → list_of tree ≡ Some xs → values tree ≡ 1 + sum (map values xs)
unfolding list_of
listed_values tree xs e = list_counted tree (out-Json tree) xs (sym (roll-out-Json tree)) e

member_within : (tree : Json) (m : Option Json) (args : List Json) → member_value tree args_name ≡ m → option_and_then list_of m ≡ Some args → 2 + sum (map values args) ≤ values tree
member_within tree None args e f = absurd cc
member_within tree (Some v) args e f = omega (arith, object_within tree (out-Json tree) args_name v (sym (roll-out-Json tree)) e, listed_values v args f)

pub args_smaller : (tree : Json) (args : List Json) → args_of tree ≡ Some args → 2 + sum (map values args) ≤ values tree
unfolding args_of
args_smaller tree args e = member_within tree (member_value tree args_name) args refl e

pub arg_smaller : (tree arg : Json) → args_of tree ≡ Some (arg ∷ []) → 2 + values arg ≤ values tree
arg_smaller tree arg e = omega (arith, args_smaller tree (arg ∷ []) e, sum_by-cons (λ n. n) (values arg) [])

pub element_smaller : (xs : List Json) (x : Json) (i : ℕ) → i < length xs → x ≡ get_or xs i x → values x ≤ sum (map values xs)
element_smaller [] x i lt e = absurd (omega arith)
element_smaller (y ∷ xs) x zero lt e = omega (arith, sum_by-cons (λ n. n) (values y) (map values xs), ap values e)
element_smaller (y ∷ xs) x (suc i) lt e = omega (arith, sum_by-cons (λ n. n) (values y) (map values xs), element_smaller xs x i (omega arith) e)
