-- The prefix of a property's name.
use Rattle.std.proofs.Common.{◌≡◌, ℕ, ◌≤◌, List, length, take, drop, cond, Bool, true, false, refl, sym, ap, subst, ◌∙◌, arith, nat_eq}
use Rattle.std.specs.Cmp.Lexicographic.{pointwise, same_text}
use Rattle.std.specs.Str.{IsUtf8, IsCharBoundary}
use Rattle.std.proofs.lemmas.List.{length-take}
use Rattle.std.proofs.lemmas.Str.{IsCharBoundary-from_take}
use Rattle.sc_sort.specs.Words.{properties_prefix}
use Rattle.sc_sort.specs.Named.{unprefixed}

prefix_length : length properties_prefix ≡ 11
unfolding properties_prefix
prefix_length = refl

-- a name that can't be cut behind 11 bytes hasn't it
pub no_prefix : (name : List ℕ) → IsUtf8 name → IsUtf8 properties_prefix → (IsCharBoundary name 11 → ⊥) → pointwise nat_eq (take 11 name) properties_prefix ≡ false
no_prefix name utf8 prefix_utf8 none = by (pointwise nat_eq (take 11 name) properties_prefix) refl
  where
    by : (t : Bool) → pointwise nat_eq (take 11 name) properties_prefix ≡ t → pointwise nat_eq (take 11 name) properties_prefix ≡ false
    by false e = e
    by true e =
        let same : take 11 name ≡ properties_prefix = same_text (take 11 name) properties_prefix (sym e) in
        let long : 11 ≤ length name = (let l = length-take 11 name in let k : length (take 11 name) ≡ 11 = ap length same ∙ prefix_length in omega (arith, l, k)) in
        absurd (none (IsCharBoundary-from_take name 11 utf8 long (subst IsUtf8 (sym same) prefix_utf8)))

pub whole_name : (name : List ℕ) → IsUtf8 name → IsUtf8 properties_prefix → (IsCharBoundary name 11 → ⊥) → name ≡ unprefixed name
whole_name name utf8 prefix_utf8 none = sym (ap (λ (b : Bool). cond b (drop 11 name) name) (no_prefix name utf8 prefix_utf8 none))
