-- The front of a text that counts is the one that ends at the last place within the limit where a character ends.
use Rattle.std.proofs.Common.{◌≡◌, ◌≤◌, ◌<◌, ℕ, suc, zero, Bool, true, false, cond, List, [], ◌∷◌, take, length, refl, sym, ap, ◌∙◌, arith, ◌⊎◌, inl, inr, true≢false}
use Rattle.std.specs.Str.{is_utf8, IsUtf8, IsCharBoundary}
use Rattle.std.specs.List.{AllPass, AllByRecursion, slice_range}
use Rattle.std.proofs.lemmas.Bool.{cases_lt}
use Rattle.std.proofs.lemmas.Bool.Decides.{nat_tests}
use Rattle.std.proofs.lemmas.List.{length-take, take_all}
use Rattle.std.proofs.lemmas.List.Elements.{All-from_recursion}
use Rattle.std.proofs.lemmas.Str.{IsUtf8-from_is_utf8, is_utf8-from_IsUtf8, IsUtf8-take, IsCharBoundary-end, IsCharBoundary-from_take}
use Rattle.sc_json.proofs.Quoting.{front_range as slice_front}
use Rattle.sc_item.specs.Feature.{Feature}
use Rattle.sc_sort.specs.declared.key.Key.{Key}
use Rattle.sc_sort.specs.Keys.{is_short}
use Rattle.sc_eval.specs.Property.{PropertyValue, absent, text, number, truth, moment, shape, other, property_value}
use Rattle.sc_page.specs.ItemKey.{front_of_text, sort_value, values_of}

-- no place behind r within n ends a character
abbrev NoneBehind : List ℕ → ℕ → ℕ → Type 0
NoneBehind t r n = (i : ℕ) → r < i → i ≤ n → ¬ (IsCharBoundary t i)

whole : (t : List ℕ) (r n : ℕ) → IsUtf8 t → IsCharBoundary t r → r < n → IsUtf8 (take n t) → NoneBehind t r n → take r t ≡ take n t
whole t r n u b lt v none = by (cases_lt (length t) n)
  where
    by : (length t < n) ⊎ (n ≤ length t) → take r t ≡ take n t
    by (inr le) = absurd (none n lt (omega arith) (IsCharBoundary-from_take t n u le v))
    by (inl past) = end (cases_lt r (length t))
      where
        end : (r < length t) ⊎ (length t ≤ r) → take r t ≡ take n t
        end (inl before) = absurd (none (length t) before (omega arith) (IsCharBoundary-end t))
        end (inr at) = take_all r t at ∙ sym (take_all n t (omega arith))

pub front_is : (n r : ℕ) (t : List ℕ) → IsUtf8 t → r ≤ n → IsCharBoundary t r → NoneBehind t r n → take r t ≡ front_of_text n t
unfolding front_of_text
front_is zero r t u le b none = let e : r ≡ 0 = omega arith in ap (λ k. take k t) e
front_is (suc n) r t u le b none = go (λ lt. front_is n r t u (omega arith) b (λ i l m. none i l (omega arith))) (is_utf8 (take (suc n) t)) refl (cases_lt r (suc n))
  where
    go : (r < suc n → take r t ≡ front_of_text n t) → (c : Bool) → is_utf8 (take (suc n) t) ≡ c → (r < suc n) ⊎ (suc n ≤ r) → take r t ≡ cond c (take (suc n) t) (front_of_text n t)
    go shorter true e (inl lt) = whole t r (suc n) u b lt (IsUtf8-from_is_utf8 (take (suc n) t) e) none
    go shorter true e (inr ge) = let f : r ≡ suc n = omega arith in ap (λ k. take k t) f
    go shorter false e (inl lt) = shorter lt
    go shorter false e (inr ge) =
        let f : r ≡ suc n = omega arith in
        absurd (true≢false (sym (is_utf8-from_IsUtf8 (take r t) (IsUtf8-take t r u b)) ∙ ap (λ k. is_utf8 (take k t)) f ∙ e))

-- a front is within the limit
front_within : (n : ℕ) (t : List ℕ) → length (front_of_text n t) ≤ n
unfolding front_of_text
front_within zero t = omega arith
front_within (suc n) t =
    let l = length-take (suc n) t in
    let h = front_within n t in
    elim (is_utf8 (take (suc n) t)) as (λ b. length (cond b (take (suc n) t) (front_of_text n t)) ≤ suc n) [ true ↦ omega (arith, l) | false ↦ omega (arith, h) ]

short_value : (v : PropertyValue) → is_short (sort_value v) ≡ true
short_value absent = refl
short_value (text t) = let h = front_within 128 t in grind (arith, nat_tests)
short_value (number n) = refl
short_value (truth b) = refl
short_value (moment at) = refl
short_value (shape g) = refl
short_value other = refl

pub all_short : (sort : List Key) (item : Feature) → AllPass is_short (values_of sort item)
all_short sort item = All-from_recursion (λ v. is_short v ≡ true) (values_of sort item) (each sort)
  where
    each : (keys : List Key) → AllByRecursion (λ v. is_short v ≡ true) (values_of keys item)
    each [] = tt
    each (key ∷ keys) = (short_value (property_value key.name item), each keys)

pub front_range : (n r : ℕ) (t : List ℕ) → IsUtf8 t → r ≤ n → IsCharBoundary t r → NoneBehind t r n → slice_range t 0 r ≡ front_of_text n t
front_range n r t u le b none = slice_front t r ∙ front_is n r t u le b none
