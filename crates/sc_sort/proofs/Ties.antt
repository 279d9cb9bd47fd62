-- Key lists that tie.
use Rattle.std.proofs.Common.{◌≡◌, ℕ, Bool, true, false, List, [], ◌∷◌, length, Option, Some, None, unwrap_or, Ordering, refl, ◌∙◌, ap, subst, arith}
use Rattle.std.specs.declared.cmp.Ordering.TheVariants.{Less, Equal, Greater}
use Rattle.std.specs.Ordering.{nat_cmp, ordering_then, ordering_reverse}
use Rattle.std.proofs.lemmas.Cmp.{nat_list_cmp_total, tied_itself, ranked, by_ranked}
use Rattle.std.proofs.Common.{◌<◌}
use Rattle.std.specs.List.{AllByRecursion}
use Rattle.sc_base.specs.Text.{text_order}
use Rattle.sc_decimal.specs.Number.{dec_cmp_total}
use Rattle.sc_decimal.proofs.Order.{int_equal, equal_same}
use Rattle.sc_sort.specs.declared.value.SortValue.{SortValue}
use Rattle.sc_sort.specs.declared.value.SortValue.TheVariants as value
use Rattle.sc_sort.specs.declared.key.Key.{Key}
use Rattle.sc_sort.specs.Keys.{Keys, IsKept}
use Rattle.sc_sort.specs.Order.{value_order, order_by, there, first_there, others, values_order, keys_order, AreTied, AllTied}
use Rattle.sc_sort.proofs.Orders.{value_total, order_by_total}

pub then_tie : (o p : Ordering) → ordering_then o p ≡ Equal → (o ≡ Equal) × (p ≡ Equal)
then_tie Less p e = cc
then_tie Equal p e = (refl, e)
then_tie Greater p e = cc

pub number_tie : (x y : ℕ) → nat_cmp x y ≡ Equal → x ≡ y
number_tie x y e = by_ranked (x < y) (x ≡ y) (y < x) (nat_cmp x y) (ranked x y (nat_cmp x y) refl) (λ l _. cc (l, e)) (λ _ h. h) (λ g _. cc (g, e))

pub text_tie : (a b : List ℕ) → text_order a b ≡ Equal → a ≡ b
text_tie [] [] e = refl
text_tie [] (y ∷ ys) e = cc
text_tie (x ∷ xs) [] e = cc
text_tie (x ∷ xs) (y ∷ ys) e =
    let t = then_tie (nat_cmp x y) (text_order xs ys) e in
    let h : x ≡ y = number_tie x y t.0 in
    let u : xs ≡ ys = text_tie xs ys t.1 in
    cc

pub value_tie : (a b : SortValue) → value_order a b ≡ Equal → AreTied (Some a) (Some b)
value_tie (value.Number a) (value.Number b) e = e
value_tie (value.Moment a) (value.Moment b) e = ap (λ t. Some (value.Moment t)) (int_equal a b e)
value_tie (value.Text a) (value.Text b) e = ap (λ t. Some (value.Text t)) (text_tie a b e)
value_tie (value.Truth true) (value.Truth true) e = refl
value_tie (value.Truth false) (value.Truth false) e = refl
value_tie value.Absent value.Absent e = refl
value_tie (value.Moment a) (value.Truth true) e = cc
value_tie (value.Number a) (value.Truth true) e = cc
value_tie (value.Text a) (value.Truth true) e = cc
value_tie value.Absent (value.Truth true) e = cc
value_tie a b e = cc

abbrev IsTie : Bool → Option SortValue → Option SortValue → Type 0
IsTie down a b = order_by down a b ≡ Equal

-- what ties by a key is tied
key_tie : (down : Bool) (a b : Option SortValue) → IsTie down a b → AreTied a b
key_tie down None None e = refl
key_tie down None (Some b) e = cc
key_tie down (Some a) None e = cc
key_tie false (Some a) (Some b) e = value_tie a b e
key_tie true (Some a) (Some b) e = value_tie a b (value_total.antisymm a b ∙ ap ordering_reverse e)

-- what is the same ties
same : (down : Bool) (a b : Option SortValue) → a ≡ b → IsTie down a b
same down a b e = subst (λ x. IsTie down a x) e (tied_itself (order_by_total down) a)

-- what is tied ties by a key
tie_key : (down : Bool) (a b : Option SortValue) → AreTied a b → IsTie down a b
tie_key false (Some (value.Number a)) (Some (value.Number b)) t = t
tie_key true (Some (value.Number a)) (Some (value.Number b)) t = dec_cmp_total.antisymm b a ∙ ap ordering_reverse t
tie_key down None b t = same down None b t
tie_key down (Some (value.Moment a)) b t = same down (Some (value.Moment a)) b t
tie_key down (Some (value.Text a)) b t = same down (Some (value.Text a)) b t
tie_key down (Some (value.Truth a)) b t = same down (Some (value.Truth a)) b t
tie_key down (Some value.Absent) b t = same down (Some value.Absent) b t
tie_key down (Some (value.Number a)) None t = same down (Some (value.Number a)) None t
tie_key down (Some (value.Number a)) (Some (value.Moment b)) t = same down (Some (value.Number a)) (Some (value.Moment b)) t
tie_key down (Some (value.Number a)) (Some (value.Text b)) t = same down (Some (value.Number a)) (Some (value.Text b)) t
tie_key down (Some (value.Number a)) (Some (value.Truth b)) t = same down (Some (value.Number a)) (Some (value.Truth b)) t
tie_key down (Some (value.Number a)) (Some value.Absent) t = same down (Some (value.Number a)) (Some value.Absent) t

pub all_tied : (sort : List Key) (a b : List SortValue) → values_order sort a b ≡ Equal → AllTied sort a b
unfolding values_order
all_tied [] a b e = tt
all_tied (key ∷ keys) a b e =
    let t = then_tie (order_by key.down (first_there a) (first_there b)) (values_order keys (others a) (others b)) e in
    (key_tie key.down (first_there a) (first_there b) t.0, all_tied keys (others a) (others b) t.1)

pub tied_values : (sort : List Key) (a b : List SortValue) → AllTied sort a b → values_order sort a b ≡ Equal
unfolding values_order
tied_values [] a b t = refl
tied_values (key ∷ keys) a b t =
    ap (λ o. ordering_then o (values_order keys (others a) (others b))) (tie_key key.down (first_there a) (first_there b) t.0)
    ∙ tied_values keys (others a) (others b) t.1

-- the three parts of a tie
pub tie_parts : (sort : List Key) (a b : Keys) → keys_order sort a b ≡ Equal → (values_order sort a.values b.values ≡ Equal) × (a.collection ≡ b.collection) × (a.id ≡ b.id)
tie_parts sort a b e =
    let t = then_tie (values_order sort a.values b.values) (ordering_then (text_order a.collection b.collection) (text_order a.id b.id)) e in
    let u = then_tie (text_order a.collection b.collection) (text_order a.id b.id) t.1 in
    (t.0, text_tie _ _ u.0, text_tie _ _ u.1)

pub tie_from_parts : (sort : List Key) (a b : Keys) → AllTied sort a.values b.values → a.collection ≡ b.collection → a.id ≡ b.id → keys_order sort a b ≡ Equal
tie_from_parts sort a b t c i =
    let x = tied_values sort a.values b.values t in
    let y : text_order a.collection b.collection ≡ Equal = subst (λ w. text_order a.collection w ≡ Equal) c (tied_itself nat_list_cmp_total a.collection) in
    let z : text_order a.id b.id ≡ Equal = subst (λ w. text_order a.id w ≡ Equal) i (tied_itself nat_list_cmp_total a.id) in
    ap (λ o. ordering_then o (ordering_then (text_order a.collection b.collection) (text_order a.id b.id))) x
    ∙ ap (λ o. ordering_then o (text_order a.id b.id)) y ∙ z

-- ---- ties of kept values

some_same : {a b : SortValue} → Some a ≡ Some b → a ≡ b
some_same {a} {b} e = ap (λ o. unwrap_or o a) e

-- tied values, but for numbers
one_some : (a b : SortValue) → Some a ≡ there b → a ≡ b
one_some a (value.Moment b) t = some_same t
one_some a (value.Number b) t = some_same t
one_some a (value.Text b) t = some_same t
one_some a (value.Truth b) t = some_same t
one_some a value.Absent t = cc

one_there : (a b : SortValue) → IsKept a → IsKept b → AreTied (there a) (there b) → a ≡ b
one_there (value.Number a) (value.Number b) p q t = ap value.Number (equal_same a b p q t)
one_there value.Absent value.Absent p q t = refl
one_there value.Absent (value.Moment b) p q t = cc
one_there value.Absent (value.Number b) p q t = cc
one_there value.Absent (value.Text b) p q t = cc
one_there value.Absent (value.Truth b) p q t = cc
one_there (value.Moment a) b p q t = one_some (value.Moment a) b t
one_there (value.Text a) b p q t = one_some (value.Text a) b t
one_there (value.Truth a) b p q t = one_some (value.Truth a) b t
one_there (value.Number a) (value.Moment b) p q t = cc
one_there (value.Number a) (value.Text b) p q t = cc
one_there (value.Number a) (value.Truth b) p q t = cc
one_there (value.Number a) value.Absent p q t = cc

pub one_list : (sort : List Key) (a b : List SortValue) → length a ≡ length sort → length b ≡ length sort → AllByRecursion IsKept a → AllByRecursion IsKept b → AllTied sort a b → a ≡ b
one_list [] [] [] k l p q t = refl
one_list [] (x ∷ a) b k l p q t = absurd (omega (arith, k))
one_list [] [] (y ∷ b) k l p q t = absurd (omega (arith, l))
one_list (key ∷ keys) [] b k l p q t = absurd (omega (arith, k))
one_list (key ∷ keys) (x ∷ a) [] k l p q t = absurd (omega (arith, l))
one_list (key ∷ keys) (x ∷ a) (y ∷ b) k l p q t =
    let e = one_there x y p.0 q.0 t.0 in
    let f = one_list keys a b (omega (arith, k)) (omega (arith, l)) p.1 q.1 t.1 in
    cc
