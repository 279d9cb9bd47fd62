-- What is found of a list's elements.
use Rattle.std.proofs.Common.{◌≡◌, ℕ, ◌+◌, Bool, true, false, List, [], ◌∷◌, ◌++◌, length, map, get_or, take, drop, refl, sym, ap, subst, ◌∙◌, Option, Some, None, unwrap_or, append_assoc}
use Rattle.std.specs.Prelude.{SomeIff, All}
use Rattle.std.specs.List.{AllPass}
use Rattle.std.proofs.lemmas.List.{append-nil}
use Rattle.std.proofs.lemmas.List.Elements.{All-cons, All-nil, All-head, All-tail}
use Rattle.sc_json.specs.declared.tree.Json.{Json}
use Rattle.sc_json.specs.declared.tree.Json.TheVariants as trees
use Rattle.sc_sort.specs.declared.value.SortValue.{SortValue}
use Rattle.sc_sort.specs.declared.key.Key.{Key}
use Rattle.sc_sort.specs.Keys.{Keys, IsKept, AreKept, is_short}
use Rattle.sc_sort.specs.Spec.{is_of_time}
use Rattle.sc_token.specs.Token.{tree_of, trees_of, token_of}
use Rattle.sc_token.specs.Fits.{FitKeys, FitsSort, IsName}
use Rattle.sc_token.specs.Steps.{AreOfKinds, ReadsValue, ReadsName, ReadsKeys, AddsValues, AreInForm, IsOfLength}
use Rattle.sc_token.specs.Reading.{IsOfList, IsTokenOf, HasOtherKind}
use Rattle.sc_token.proofs.Fitting.{same_head, same_tail, values_of_trees, names_of_trees}
use Rattle.sc_token.proofs.Lists.{token_list, one_list}

-- ---- values in turn

pub adds_nothing : (keys : List Key) (elements : List Json) (old : List SortValue) → keys ≡ [] → elements ≡ [] → AddsValues true keys elements old old
adds_nothing [] [] old p q = ([], sym (append-nil old), tt, λ others f e. none others f)
  where
    none : (others : List SortValue) → FitKeys [] others → others ≡ []
    none [] f = refl
    none (v ∷ others) f = absurd f
adds_nothing (key ∷ keys) elements old p q = cc
adds_nothing [] (tree ∷ elements) old p q = cc

pub adds_none : (key : Key) (keys : List Key) (tree : Json) (elements : List Json) (old new : List SortValue) → ReadsValue (is_of_time key) tree None → AddsValues false (key ∷ keys) (tree ∷ elements) old new
adds_none key keys tree elements old new r [] f e = absurd f
adds_none key keys tree elements old new r (v ∷ others) f e =
    let h : None ≡ Some v = r.every v f.0 (same_head tree (tree_of v) elements (map tree_of others) e) in
    cc

same_some : {A : Type 0} (a b : A) → Some a ≡ Some b → a ≡ b
same_some a b e = ap (λ o. unwrap_or o a) e

pub adds_more : (added : Bool) (key : Key) (keys : List Key) (tree : Json) (elements : List Json) (v : SortValue) (old mid new : List SortValue)
    → ReadsValue (is_of_time key) tree (Some v) → mid ≡ old ++ v ∷ [] → AddsValues added keys elements mid new → AddsValues added (key ∷ keys) (tree ∷ elements) old new
adds_more true key keys tree elements v old mid new r m a =
    (v ∷ a.0, a.1 ∙ ap (λ t. t ++ a.0) m ∙ append_assoc old (v ∷ []) a.0, (r.kind, a.2), every)
  where
    every : (others : List SortValue) → FitKeys (key ∷ keys) others → tree ∷ elements ≡ map tree_of others → others ≡ v ∷ a.0
    every [] f e = absurd f
    every (w ∷ others) f e =
        let h : v ≡ w = same_some v w (r.every w f.0 (same_head tree (tree_of w) elements (map tree_of others) e)) in
        let t : others ≡ a.0 = a.3 others f.1 (same_tail tree (tree_of w) elements (map tree_of others) e) in
        λ i. sym h i ∷ t i
adds_more false key keys tree elements v old mid new r m a = none
  where
    none : (others : List SortValue) → FitKeys (key ∷ keys) others → tree ∷ elements ≡ map tree_of others → ⊥
    none [] f e = absurd f
    none (w ∷ others) f e = a others f.1 (same_tail tree (tree_of w) elements (map tree_of others) e)

pub added_all : (added : Bool) (keys sort : List Key) (elements : List Json) (old new : List SortValue) → added ≡ true → keys ≡ sort → old ≡ [] → AddsValues added keys elements old new → AddsValues true sort elements [] new
added_all added keys sort elements old new e f g a =
    subst (λ b. AddsValues b sort elements [] new) e (subst (λ (k : List Key). AddsValues added k elements [] new) f (subst (λ o. AddsValues added keys elements o new) g a))

-- ---- the whole

pub fit_short : (sort : List Key) (values : List SortValue) → FitKeys sort values → AllPass is_short values
fit_short [] [] f = All-nil (λ v. is_short v ≡ true)
fit_short [] (v ∷ values) f = absurd f
fit_short (key ∷ keys) [] f = absurd f
fit_short (key ∷ keys) (v ∷ values) f = All-cons (λ v. is_short v ≡ true) v values f.0.short (fit_short keys values f.1)

fit_from : (sort : List Key) (values : List SortValue) → AreOfKinds sort values → AllPass is_short values → All IsKept values → FitKeys sort values
fit_from [] [] k s h = tt
fit_from [] (v ∷ values) k s h = absurd k
fit_from (key ∷ keys) [] k s h = absurd k
fit_from (key ∷ keys) (v ∷ values) k s h = (
  record { kind = k.0; short = All-head (λ v. is_short v ≡ true) v values s; kept = All-head IsKept v values h },
  fit_from keys values k.1 (All-tail (λ v. is_short v ≡ true) v values s) (All-tail IsKept v values h),
)

pub fits_from : (sort : List Key) (keys : Keys) → AreInForm sort keys → AreKept keys → FitsSort sort keys
fits_from sort keys f k = record {
  values = fit_from sort keys.values f.values f.short k.values;
  collection = record { utf8 = k.collection; some = f.collection.some; short = f.collection.short };
  id = record { utf8 = k.id; some = f.id.some; short = f.id.short };
}

size_of : (text : List ℕ) → IsName text → IsOfLength text
size_of text h = record { some = h.some; short = h.short }

module _ (sort : List Key) (elements front back : List Json) (is_front : front ≡ take (length sort) elements) (is_back : back ≡ drop (length sort) elements) where
  abbrev Stands : Keys → Type 0
  Stands keys = FitsSort sort keys × (elements ≡ trees_of keys)

  first_name : (keys : Keys) → Stands keys → (x : Json) → x ≡ get_or back 0 x → x ≡ trees.Text keys.collection
  first_name keys s x e = e ∙ ap (λ l. get_or l 0 x) (is_back ∙ names_of_trees sort keys elements s.0 s.1)

  second_name : (keys : Keys) → Stands keys → (x : Json) → x ≡ get_or back 1 x → x ≡ trees.Text keys.id
  second_name keys s x e = e ∙ ap (λ l. get_or l 1 x) (is_back ∙ names_of_trees sort keys elements s.0 s.1)

  front_values : (keys : Keys) → Stands keys → front ≡ map tree_of keys.values
  front_values keys s = is_front ∙ values_of_trees sort keys elements s.0 s.1

  nothing : ((keys : Keys) → Stands keys → ⊥) → ReadsKeys sort elements None
  nothing h = record { form = tt; every = λ keys f e. absurd (h keys (f, e)) }

  pub no_values : (old new : List SortValue) → AddsValues false sort front old new → ReadsKeys sort elements None
  no_values old new a = nothing (λ keys s. a keys.values s.0.values (front_values keys s))

  pub no_collection : (x : Json) → x ≡ get_or back 0 x → ReadsName x None → ReadsKeys sort elements None
  no_collection x e r = nothing (λ keys s. let h : None ≡ Some keys.collection = r.every keys.collection (size_of keys.collection s.0.collection) (first_name keys s x e) in cc)

  pub no_id : (x : Json) → x ≡ get_or back 1 x → ReadsName x None → ReadsKeys sort elements None
  no_id x e r = nothing (λ keys s. let h : None ≡ Some keys.id = r.every keys.id (size_of keys.id s.0.id) (second_name keys s x e) in cc)

  module _ (values : List SortValue) (collection id : List ℕ) (x y : Json) (x_is : x ≡ get_or back 0 x) (y_is : y ≡ get_or back 1 y) (rx : ReadsName x (Some collection)) (ry : ReadsName y (Some id))
      (added : AddsValues true sort front [] values) where
    whole : Keys
    whole = record { values = values; collection = collection; id = id }

    same_values : (keys : Keys) → Stands keys → values ≡ keys.values
    same_values keys s = added.1 ∙ sym (added.3 keys.values s.0.values (front_values keys s))

    same_keys : (keys : Keys) → Stands keys → record { values = values; collection = collection; id = id } ≡ keys
    same_keys keys s =
        let v = same_values keys s in
        let c : collection ≡ keys.collection = same_some collection keys.collection (rx.every keys.collection (size_of keys.collection s.0.collection) (first_name keys s x x_is)) in
        let i : id ≡ keys.id = same_some id keys.id (ry.every keys.id (size_of keys.id s.0.id) (second_name keys s y y_is)) in
        λ k. record { values = v k; collection = c k; id = i k }

    pub found : (result : Option Keys) → SomeIff result (AllPass is_short values) (record { values = values; collection = collection; id = id }) → ReadsKeys sort elements result
    found None long = nothing (λ keys s. long (subst (AllPass is_short) (sym (same_values keys s)) (fit_short sort keys.values s.0.values)))
    found (Some k) h = subst (λ (x : Keys). ReadsKeys sort elements (Some x)) (sym h.1) (record {
      form = record {
        values = subst (AreOfKinds sort) (sym added.1) added.2;
        short = h.0;
        collection = rx.size;
        id = ry.size;
      };
      every = λ keys f e. ap Some (same_keys keys (f, e));
    })

-- ---- the answer

module _ (sort : List Key) (text : List ℕ) (elements : List Json) (list : IsOfList text elements) (count : length elements ≡ length sort + 2) where
  stands : (keys : Keys) → IsTokenOf sort keys text → elements ≡ trees_of keys
  stands keys t = one_list text elements (trees_of keys) list (subst (λ (x : List ℕ). IsOfList x (trees_of keys)) (sym t.token) (token_list sort keys t.fits))

  pub other_kind : ReadsKeys sort elements None → HasOtherKind sort text
  other_kind r = record {
    elements = elements;
    list = list;
    count_is = count;
    none = λ keys t. let h : None ≡ Some keys = r.every keys t.fits (stands keys t) in cc;
  }

  pub other_token : (keys : Keys) → ReadsKeys sort elements (Some keys) → (text ≡ token_of keys → ⊥) → HasOtherKind sort text
  other_token keys r other = record {
    elements = elements;
    list = list;
    count_is = count;
    none = λ others t.
        let h : keys ≡ others = same_some keys others (r.every others t.fits (stands others t)) in
        other (subst (λ (k : Keys). text ≡ token_of k) (sym h) t.token);
  }

  pub its_token : (keys : Keys) → ReadsKeys sort elements (Some keys) → AreKept keys → text ≡ token_of keys → IsTokenOf sort keys text
  its_token keys r kept e = record { fits = fits_from sort keys r.form kept; token = e }
