-- What is read of the elements of a list.
use Rattle.std.specs.Prelude.{◌≡◌, ℕ, ◌≤◌, Bool, true, false, List, [], ◌∷◌, ◌++◌, length, map, Option, Some, None}
use Rattle.std.specs.List.{AllPass}
use Rattle.sc_json.specs.declared.tree.Json.{Json}
use Rattle.sc_json.specs.declared.tree.Json.TheVariants as trees
use Rattle.sc_sort.specs.declared.value.SortValue.{SortValue}
use Rattle.sc_sort.specs.declared.key.Key.{Key}
use Rattle.sc_sort.specs.Keys.{Keys, is_short}
use Rattle.sc_sort.specs.Spec.{is_of_time}
use Rattle.sc_token.specs.Token.{tree_of, trees_of}
use Rattle.sc_token.specs.Fits.{FitsKey, FitKeys, FitsSort, is_moment}

abbrev pub AreOfKinds : List Key → List SortValue → Type 0
AreOfKinds [] [] = Unit {0}
AreOfKinds [] (value ∷ values) = ⊥
AreOfKinds (key ∷ keys) [] = ⊥
AreOfKinds (key ∷ keys) (value ∷ values) = (is_moment value ≡ is_of_time key) × AreOfKinds keys values

abbrev pub IfFound : {A : Type 0} → (A → Type 0) → Option A → Type 0
IfFound P None = Unit {0}
IfFound P (Some x) = P x

-- what is found has the kind, and it is the value that stands so, where one does
pub record ReadsValue (of_time : Bool) (tree : Json) (found : Option SortValue) : Type 0 where
  pub kind : IfFound (λ value. is_moment value ≡ of_time) found
  pub every : (value : SortValue) → FitsKey of_time value → tree ≡ tree_of value → found ≡ Some value

-- 1 to 256 bytes
pub record IsOfLength (text : List ℕ) : Type 0 where
  pub some : 1 ≤ length text
  pub short : length text ≤ 256

pub record ReadsName (tree : Json) (found : Option (List ℕ)) : Type 0 where
  pub size : IfFound IsOfLength found
  pub every : (text : List ℕ) → IsOfLength text → tree ≡ trees.Text text → found ≡ Some text

pub record AreInForm (sort : List Key) (keys : Keys) : Type 0 where
  pub values : AreOfKinds sort keys.values
  pub short : AllPass is_short keys.values
  pub collection : IsOfLength keys.collection
  pub id : IsOfLength keys.id

pub record ReadsKeys (sort : List Key) (elements : List Json) (found : Option Keys) : Type 0 where
  pub form : IfFound (AreInForm sort) found
  pub every : (keys : Keys) → FitsSort sort keys → elements ≡ trees_of keys → found ≡ Some keys

-- the values are added, or else none stand so
abbrev pub AddsValues : Bool → List Key → List Json → List SortValue → List SortValue → Type 0
AddsValues true keys elements old new = (values : List SortValue) × (new ≡ old ++ values) × AreOfKinds keys values × ((others : List SortValue) → FitKeys keys others → elements ≡ map tree_of others → others ≡ values)
AddsValues false keys elements old new = (others : List SortValue) → FitKeys keys others → elements ≡ map tree_of others → ⊥
