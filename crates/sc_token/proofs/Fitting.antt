-- Values and key lists as elements of a list.
use Rattle.std.proofs.Common.{◌≡◌, ℕ, suc, ◌+◌, ◌≤◌, Bool, true, false, List, [], ◌∷◌, ◌++◌, length, map, get_or, take, drop, refl, sym, ap, subst, ◌∙◌, arith, ℤ}
use Rattle.std.proofs.lemmas.List.{length-map, length-append}
use Rattle.std.specs.List.{AllByRecursion}
use Rattle.std.specs.Fmt.{signed_decimal}
use Rattle.sc_decimal.specs.Literal.{literal_of}
use Rattle.sc_decimal.specs.Value.{number_of}
use Rattle.sc_time.specs.Instant.{IsInstant}
use Rattle.sc_decimal.proofs.Literals.{one_literal}
use Rattle.sc_decimal.specs.Number as decimal
use Rattle.sc_json.specs.declared.tree.Num.{Num}
use Rattle.sc_json.specs.declared.tree.Json.{Json, Null, Truth, Number, Text, List', Object'}
use Rattle.sc_json.specs.declared.tree.Json.TheVariants as trees
use Rattle.sc_json.specs.Good.{Good}
use Rattle.sc_json.proofs.GoodTrees.{GoodAt, good_list, good_null, good_truth, good_text, good_number}
use Rattle.sc_sort.specs.declared.value.SortValue.{SortValue}
use Rattle.sc_sort.specs.declared.value.SortValue.TheVariants as value
use Rattle.sc_sort.specs.declared.key.Key.{Key}
use Rattle.sc_sort.specs.Keys.{Keys, IsKept}
use Rattle.sc_sort.specs.Spec.{is_of_time}
use Rattle.sc_token.specs.Token.{tree_of, trees_of}
use Rattle.sc_token.specs.Fits.{FitsKey, FitKeys, FitsSort}
use Rattle.sc_json.proofs.CanonicalLiterals.{number_literal}
use Rattle.sc_token.proofs.Decimals.{number_kept, moment_literal, moment_kept, moment_one, number_read}

-- ---- what they spell is good

good_value : (v : SortValue) → IsKept v → GoodAt 1 (tree_of v)
good_value (value.Moment at) h = good_number (signed_decimal at) 1 (moment_literal at h) (moment_kept at h) (omega arith)
good_value (value.Number n) h = good_number (literal_of n) 1 (number_literal n h) (number_kept n h) (omega arith)
good_value (value.Text t) h = good_text t h 1 (omega arith)
good_value (value.Truth b) h = good_truth b 1 (omega arith)
good_value value.Absent h = good_null 1 (omega arith)

good_elements : (sort : List Key) (values : List SortValue) (rest : List Json) → FitKeys sort values → AllByRecursion (GoodAt 1) rest → AllByRecursion (GoodAt 1) (map tree_of values ++ rest)
good_elements [] [] rest f g = g
good_elements [] (v ∷ values) rest f g = absurd f
good_elements (key ∷ keys) [] rest f g = absurd f
good_elements (key ∷ keys) (v ∷ values) rest f g = (good_value v f.0.kept, good_elements keys values rest f.1 g)

pub good_keys : (sort : List Key) (keys : Keys) → FitsSort sort keys → Good (trees.List (trees_of keys))
good_keys sort keys f =
    let two : AllByRecursion (GoodAt 1) (trees.Text keys.collection ∷ trees.Text keys.id ∷ []) = (good_text keys.collection f.collection.utf8 1 (omega arith), (good_text keys.id f.id.utf8 1 (omega arith), tt)) in
    let g = good_list 0 (trees_of keys) (good_elements sort keys.values (trees.Text keys.collection ∷ trees.Text keys.id ∷ []) f.values two) (omega arith) in
    record { levels = g.levels; shallow = (let w = g.within in omega (arith, w)) }

-- ---- how many they are

fit_count : (sort : List Key) (values : List SortValue) → FitKeys sort values → length values ≡ length sort
fit_count [] [] f = refl
fit_count [] (v ∷ values) f = absurd f
fit_count (key ∷ keys) [] f = absurd f
fit_count (key ∷ keys) (v ∷ values) f = ap suc (fit_count keys values f.1)

-- ---- one value for an element

abbrev pub text_at : Json → List ℕ
text_at (Number n) = n.literal
text_at (Text t) = t
text_at _ = []

abbrev pub dec_at : Json → decimal.Number
dec_at (Number n) = n.dec
dec_at _ = decimal.zero_number

abbrev pub kind_of : Json → ℕ
kind_of Null = 0
kind_of (Truth true) = 1
kind_of (Truth false) = 2
kind_of (Number n) = 3
kind_of (Text t) = 4
kind_of (List' shape vs) = 5
kind_of (Object' shape ms) = 6

one_value : (of_time : Bool) (a b : SortValue) → FitsKey of_time a → FitsKey of_time b → tree_of a ≡ tree_of b → a ≡ b
one_value of_time a b f g e = by a b f g (ap kind_of e) (ap text_at e)
  where
    by : (a b : SortValue) → FitsKey of_time a → FitsKey of_time b → kind_of (tree_of a) ≡ kind_of (tree_of b) → text_at (tree_of a) ≡ text_at (tree_of b) → a ≡ b
    by (value.Moment a) (value.Moment b) f g k t = ap value.Moment (moment_one a b f.kept g.kept t)
    by (value.Number a) (value.Number b) f g k t = ap value.Number (one_literal a b f.kept g.kept t)
    by (value.Text a) (value.Text b) f g k t = ap value.Text t
    by (value.Truth true) (value.Truth true) f g k t = refl
    by (value.Truth false) (value.Truth false) f g k t = refl
    by value.Absent value.Absent f g k t = refl
    by (value.Moment a) (value.Number b) f g k t = let p = f.kind in let q = g.kind in cc
    by (value.Number a) (value.Moment b) f g k t = let p = f.kind in let q = g.kind in cc
    by (value.Moment a) (value.Truth true) f g k t = let p = f.kind in let q = g.kind in cc
    by (value.Number a) (value.Truth true) f g k t = absurd (omega (arith, k))
    by (value.Text a) (value.Truth true) f g k t = absurd (omega (arith, k))
    by value.Absent (value.Truth true) f g k t = absurd (omega (arith, k))
    by a b f g k t = absurd (omega (arith, k))

-- ---- the value that an element is

pub null_value : (v : SortValue) → trees.Null ≡ tree_of v → v ≡ value.Absent
null_value v e = by v (ap kind_of e)
  where
    by : (v : SortValue) → 0 ≡ kind_of (tree_of v) → v ≡ value.Absent
    by value.Absent k = refl
    by (value.Truth true) k = absurd (omega (arith, k))
    by v k = absurd (omega (arith, k))

pub truth_value : (b : Bool) (v : SortValue) → trees.Truth b ≡ tree_of v → v ≡ value.Truth b
truth_value b v e = by b v (ap kind_of e)
  where
    by : (b : Bool) (v : SortValue) → kind_of (trees.Truth b) ≡ kind_of (tree_of v) → v ≡ value.Truth b
    by true (value.Truth true) k = refl
    by false (value.Truth false) k = refl
    by true v k = absurd (omega (arith, k))
    by false (value.Truth true) k = absurd (omega (arith, k))
    by false v k = absurd (omega (arith, k))

pub number_value : (n : Num) (v : SortValue) → FitsKey false v → trees.Number n ≡ tree_of v → v ≡ value.Number n.dec
number_value n v f e = by v f (ap kind_of e) (ap dec_at e)
  where
    by : (v : SortValue) → FitsKey false v → 3 ≡ kind_of (tree_of v) → n.dec ≡ dec_at (tree_of v) → v ≡ value.Number n.dec
    by (value.Number m) f k d = ap value.Number (sym (number_read m f.kept) ∙ sym d)
    by (value.Moment at) f k d = let h = f.kind in cc
    by (value.Text t) f k d = absurd (omega (arith, k))
    by (value.Truth true) f k d = absurd (omega (arith, k))
    by (value.Truth false) f k d = absurd (omega (arith, k))
    by value.Absent f k d = absurd (omega (arith, k))

pub text_value : (t : List ℕ) (v : SortValue) → trees.Text t ≡ tree_of v → v ≡ value.Text t
text_value t v e = by v (ap kind_of e) (ap text_at e)
  where
    by : (v : SortValue) → 4 ≡ kind_of (tree_of v) → t ≡ text_at (tree_of v) → v ≡ value.Text t
    by (value.Text u) k d = ap value.Text (sym d)
    by (value.Truth true) k d = absurd (omega (arith, k))
    by v k d = absurd (omega (arith, k))

-- a list or an object is none
pub compound_value : (tree : Json) (v : SortValue) → 5 ≤ kind_of tree → tree ≡ tree_of v → ⊥
compound_value tree v h e = by v (ap kind_of e)
  where
    by : (v : SortValue) → kind_of tree ≡ kind_of (tree_of v) → ⊥
    by (value.Truth true) k = absurd (omega (arith, h, k))
    by v k = absurd (omega (arith, h, k))

-- a moment's element is a number
pub moment_value : (tree : Json) (v : SortValue) → FitsKey true v → tree ≡ tree_of v → (at : ℤ) × (v ≡ value.Moment at) × IsInstant at × (tree ≡ trees.Number (record { literal = signed_decimal at; dec = number_of (signed_decimal at) }))
moment_value tree (value.Moment at) f e = (at, refl, f.kept, e)
moment_value tree (value.Number n) f e = let h = f.kind in cc
moment_value tree (value.Text n) f e = let h = f.kind in cc
moment_value tree (value.Truth n) f e = let h = f.kind in cc
moment_value tree value.Absent f e = let h = f.kind in cc

-- ---- one key list for elements

pub same_head : (x y : Json) (xs ys : List Json) → x ∷ xs ≡ y ∷ ys → x ≡ y
same_head x y xs ys e = ap (λ (l : List Json). get_or l 0 x) e

pub same_tail : (x y : Json) (xs ys : List Json) → x ∷ xs ≡ y ∷ ys → xs ≡ ys
same_tail x y xs ys e = ap (λ (l : List Json). drop 1 l) e

same_text : (a b : List ℕ) → trees.Text a ≡ trees.Text b → a ≡ b
same_text a b e = ap text_at e

abbrev pub names : List ℕ → List ℕ → List Json
names collection id = trees.Text collection ∷ trees.Text id ∷ []

one_values : (sort : List Key) (a b : List SortValue) (c d i j : List ℕ) → FitKeys sort a → FitKeys sort b → map tree_of a ++ names c i ≡ map tree_of b ++ names d j → (a ≡ b) × (c ≡ d) × (i ≡ j)
one_values [] [] [] c d i j f g e =
    let t = same_tail (trees.Text c) (trees.Text d) (trees.Text i ∷ []) (trees.Text j ∷ []) e in
    (refl, same_text c d (same_head (trees.Text c) (trees.Text d) (trees.Text i ∷ []) (trees.Text j ∷ []) e), same_text i j (same_head (trees.Text i) (trees.Text j) [] [] t))
one_values [] (v ∷ a) b c d i j f g e = absurd f
one_values [] [] (w ∷ b) c d i j f g e = absurd g
one_values (key ∷ keys) [] b c d i j f g e = absurd f
one_values (key ∷ keys) (v ∷ a) [] c d i j f g e = absurd g
one_values (key ∷ keys) (v ∷ a) (w ∷ b) c d i j f g e =
    let h : v ≡ w = one_value (is_of_time key) v w f.0 g.0 (same_head (tree_of v) (tree_of w) (map tree_of a ++ names c i) (map tree_of b ++ names d j) e) in
    let t = one_values keys a b c d i j f.1 g.1 (same_tail (tree_of v) (tree_of w) (map tree_of a ++ names c i) (map tree_of b ++ names d j) e) in
    ((λ k. h k ∷ t.0 k), t.1, t.2)

pub one_keys : (sort : List Key) (a b : Keys) → FitsSort sort a → FitsSort sort b → trees_of a ≡ trees_of b → a ≡ b
one_keys sort a b f g e =
    let t = one_values sort a.values b.values a.collection b.collection a.id b.id f.values g.values e in
    λ k. record { values = t.0 k; collection = t.1 k; id = t.2 k }

pub count_of_trees : (sort : List Key) (keys : Keys) → FitsSort sort keys → length (trees_of keys) ≡ length sort + 2
count_of_trees sort keys f =
    let a = length-append (map tree_of keys.values) (names keys.collection keys.id) in
    let b = length-map keys.values tree_of in
    let c = fit_count sort keys.values f.values in
    omega (arith, a, b, c)

-- ---- elements that stand for a key list, apart

pub values_of_trees : (sort : List Key) (keys : Keys) (elements : List Json) → FitsSort sort keys → elements ≡ trees_of keys → take (length sort) elements ≡ map tree_of keys.values
values_of_trees sort keys elements f e =
    let n : length (map tree_of keys.values) ≡ length sort = length-map keys.values tree_of ∙ fit_count sort keys.values f.values in
    ap (take (length sort)) e ∙ subst (λ m. take m (map tree_of keys.values ++ names keys.collection keys.id) ≡ map tree_of keys.values) n (take_front (map tree_of keys.values) (names keys.collection keys.id))
  where
    take_front : (xs ys : List Json) → take (length xs) (xs ++ ys) ≡ xs
    take_front [] ys = refl
    take_front (x ∷ xs) ys = ap (λ t. x ∷ t) (take_front xs ys)

pub names_of_trees : (sort : List Key) (keys : Keys) (elements : List Json) → FitsSort sort keys → elements ≡ trees_of keys → drop (length sort) elements ≡ names keys.collection keys.id
names_of_trees sort keys elements f e =
    let n : length (map tree_of keys.values) ≡ length sort = length-map keys.values tree_of ∙ fit_count sort keys.values f.values in
    ap (drop (length sort)) e ∙ subst (λ m. drop m (map tree_of keys.values ++ names keys.collection keys.id) ≡ names keys.collection keys.id) n (drop_front (map tree_of keys.values) (names keys.collection keys.id))
  where
    drop_front : (xs ys : List Json) → drop (length xs) (xs ++ ys) ≡ ys
    drop_front [] ys = refl
    drop_front (x ∷ xs) ys = drop_front xs ys
