-- The member of a name, by its place among the members.
use Rattle.std.proofs.Common.{◌≡◌, ℕ, ◌<◌, Bool, true, false, cond, ◌||◌, List, [], ◌∷◌, length, get_or, Option, Some, None, refl, ap, sym, ◌∙◌}
use Rattle.std.specs.Prelude.{MatchOption}
use Rattle.std.specs.List.{position, find}
use Rattle.std.specs.Option.{option_map}
use Rattle.std.proofs.lemmas.List.Quantifiers.{position-Some}
use Rattle.sc_json.specs.declared.tree.Json.{Json}
use Rattle.sc_json.specs.declared.tree.Member.{Member, out-Member}
use Rattle.sc_json.specs.Names.{has_name}
use Rattle.sc_json.specs.Member.{value_in}
use Rattle.sc_item.specs.Trees.{is_named}
use Rattle.sc_geom.proofs.Members.{found_at, found_nowhere}

abbrev value_of : Member → Json
value_of m = (out-Member m).value

value_find : (name : List ℕ) (ms : List Member) → value_in ms name ≡ option_map value_of (find (is_named name) ms)
value_find name [] = refl
value_find name (m ∷ ms) = by (is_named name m) (value_find name ms)
  where
    by : (b : Bool) → value_in ms name ≡ option_map value_of (find (is_named name) ms) →
        cond b (Some (value_of m)) (value_in ms name) ≡ option_map value_of (cond b (Some m) (find (is_named name) ms))
    by true e = refl
    by false e = e

-- what the place of a name says of the member
pub value_at : (r : Option ℕ) (ms : List Member) (name : List ℕ) → r ≡ position (is_named name) ms →
    MatchOption r (value_in ms name ≡ None) (λ i. (i < length ms) × ((m : Member) → m ≡ get_or ms i m → value_in ms name ≡ Some (out-Member m).value))
value_at None ms name e = value_find name ms ∙ ap (option_map value_of) (found_nowhere (is_named name) ms (sym e))
value_at (Some i) ms name e = by ms e
  where
    by : (ms : List Member) → Some i ≡ position (is_named name) ms →
        (i < length ms) × ((m : Member) → m ≡ get_or ms i m → value_in ms name ≡ Some (out-Member m).value)
    by [] f = absurd cc
    by (x ∷ xs) f =
        let at = position-Some (is_named name) (x ∷ xs) i x (sym f) in
        (at.0, λ m is. value_find name (x ∷ xs) ∙ ap (option_map value_of) (found_at (is_named name) (x ∷ xs) i m (sym f) is))

-- no member has the name
unnamed : (b : Bool) (v : Json) (later : Option Json) → cond b (Some v) later ≡ None → (b ≡ false) × (later ≡ None)
unnamed true v later e = absurd cc
unnamed false v later e = (refl, e)

pub no_name : (ms : List Member) (name : List ℕ) → value_in ms name ≡ None → has_name ms name ≡ false
no_name [] name e = refl
no_name (m ∷ ms) name e =
    let u = unnamed (is_named name m) (value_of m) (value_in ms name) e in
    ap (λ (b : Bool). b || has_name ms name) u.0 ∙ no_name ms name u.1
