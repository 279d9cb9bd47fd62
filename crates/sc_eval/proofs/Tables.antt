-- A table of names, filled from a list one by one.
use Rattle.std.proofs.Common.{◌≡◌, ℕ, ◌+◌, ◌<◌, Bool, true, false, not, ◌||◌, List, [], ◌∷◌, ◌++◌, map, length, get_or, take, refl, sym, ◌∙◌, ap, ap₂}
use Rattle.std.specs.Prelude.{MatchBool}
use Rattle.std.specs.Str.{bytes_eq}
use Rattle.std.specs.Cmp.Lexicographic.{same_text}
use Rattle.std.specs.List.{list_any}
use Rattle.std.specs.List.Sorted.{IsPermutation}
use Rattle.std.proofs.lemmas.List.{take_more}
use Rattle.std.proofs.lemmas.List.Folds.{list_any-append}
use Rattle.std.proofs.lemmas.List.Sorted.{list_any-IsPermutation}
use Rattle.sc_eval.specs.Selection.{is_one_of}
use Rattle.sc_eval.specs.Names.{AreSameNames}

pub any_map : {K : Type 0} (f : K → List ℕ) (p : List ℕ → Bool) (ks : List K) → list_any p (map f ks) ≡ list_any (λ k. p (f k)) ks
any_map f p [] = refl
any_map f p (k ∷ ks) = ap (λ b. p (f k) || b) (any_map f p ks)

or_there : (b c : Bool) → (b ≡ true → c ≡ true) → c ≡ (b || c)
or_there true c there = there refl
or_there false c there = refl

or_end : (a b : Bool) → (b || a) ≡ (a || (b || false))
or_end true true = refl
or_end true false = refl
or_end false true = refl
or_end false false = refl

module _ {K : Type 0} (f : K → List ℕ) (k : K) (old new : List K) where
  -- what is among the names of a table into which one was put
  put_in : (added : Bool) → MatchBool added (IsPermutation (k ∷ old) new) (new ≡ old) → added ≡ not (list_any (λ o. bytes_eq (f k) (f o)) old) → (name : List ℕ) → is_one_of (map f new) name ≡ (bytes_eq name (f k) || is_one_of (map f old) name)
  put_in true moved was name =
      any_map f (bytes_eq name) new ∙ sym (list_any-IsPermutation (λ o. bytes_eq name (f o)) (k ∷ old) new moved) ∙ ap (λ b. bytes_eq name (f k) || b) (sym (any_map f (bytes_eq name) old))
  put_in false same was name =
      ap (λ ks. is_one_of (map f ks) name) same ∙ or_there (bytes_eq name (f k)) (is_one_of (map f old) name) (λ e.
      ap (is_one_of (map f old)) (same_text name (f k) (sym e)) ∙ any_map f (bytes_eq (f k)) old ∙ there (list_any (λ o. bytes_eq (f k) (f o)) old) was)
    where
      there : (b : Bool) → false ≡ not b → b ≡ true
      there true e = refl
      there false e = cc

  pub one_more : (added : Bool) → MatchBool added (IsPermutation (k ∷ old) new) (new ≡ old) → added ≡ not (list_any (λ o. bytes_eq (f k) (f o)) old) →
      (names : List (List ℕ)) (i : ℕ) (x : List ℕ) → i < length names → x ≡ get_or names i x → f k ≡ x → AreSameNames (map f old) (take i names) → AreSameNames (map f new) (take (i + 1) names)
  one_more added moved was names i x lt is told same name =
      put_in added moved was name ∙ ap₂ (λ a b. bytes_eq name a || b) told (same name)
      ∙ or_end (is_one_of (take i names) name) (bytes_eq name x)
      ∙ sym (list_any-append (bytes_eq name) (take i names) (x ∷ []))
      ∙ sym (ap (λ ns. is_one_of ns name) (take_more names i x lt ∙ ap (λ t. take i names ++ t ∷ []) (sym is)))
