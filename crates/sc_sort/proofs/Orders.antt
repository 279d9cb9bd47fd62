-- The order of key lists is total.
use Rattle.std.proofs.Common.{◌≡◌, ℕ, Bool, true, false, List, [], ◌∷◌, Option, Some, None, Ordering, refl, sym, ◌∙◌, ap, subst, ℤ, pos}
use Rattle.std.specs.declared.cmp.Ordering.TheVariants.{Less, Equal, Greater}
use Rattle.std.specs.Ordering.{nat_cmp, int_cmp, ordering_then, then_cmp, flip_args, on}
use Rattle.std.specs.Option.{option_cmp}
use Rattle.std.specs.Cmp.{IsTotalOrder}
use Rattle.std.specs.Cmp.Derive.{point_total}
use Rattle.std.specs.Cmp.Lexicographic.{options_total}
use Rattle.std.proofs.lemmas.Cmp.{nat_cmp_total, int_cmp_total, nat_list_cmp_total, then_total, on_total, back_total, tied_itself}
use Rattle.sc_base.specs.Text.{text_order}
use Rattle.sc_decimal.specs.Number.{Number, dec_cmp, dec_cmp_total, zero_number}
use Rattle.sc_sort.specs.declared.value.SortValue.{SortValue}
use Rattle.sc_sort.specs.declared.value.SortValue.TheVariants as value
use Rattle.sc_sort.specs.declared.key.Key.{Key}
use Rattle.sc_sort.specs.Keys.{Keys}
use Rattle.sc_sort.specs.Order.{rank, value_order, order_by, first_there, others, values_order, keys_order}

-- ---- values, as kinds and then what is compared in a kind

abbrev moment_in : SortValue → ℤ
moment_in (value.Moment at) = at
moment_in _ = pos 0

abbrev number_in : SortValue → Number
number_in (value.Number number) = number
number_in _ = zero_number

abbrev text_in : SortValue → List ℕ
text_in (value.Text text) = text
text_in _ = []

abbrev in_parts : SortValue → SortValue → Ordering
in_parts = then_cmp (on rank nat_cmp) (then_cmp (on moment_in int_cmp) (then_cmp (on number_in dec_cmp) (on text_in text_order)))

in_parts_total : IsTotalOrder in_parts
in_parts_total =
    then_total (on_total rank nat_cmp_total)
    (then_total (on_total moment_in int_cmp_total) (then_total (on_total number_in dec_cmp_total) (on_total text_in nat_list_cmp_total)))

then_equal : (o : Ordering) → ordering_then o Equal ≡ o
then_equal Less = refl
then_equal Equal = refl
then_equal Greater = refl

-- numbers that aren't there tie
no_numbers : dec_cmp zero_number zero_number ≡ Equal
no_numbers = tied_itself dec_cmp_total zero_number

behind_moments : (o : Ordering) → ordering_then o (ordering_then (dec_cmp zero_number zero_number) Equal) ≡ o
behind_moments o = ap (λ t. ordering_then o (ordering_then t Equal)) no_numbers ∙ then_equal o

behind_nothing : (o : Ordering) → ordering_then (dec_cmp zero_number zero_number) o ≡ o
behind_nothing o = ap (λ t. ordering_then t o) no_numbers

value_parts : (a b : SortValue) → value_order a b ≡ in_parts a b
value_parts (value.Moment a) (value.Moment b) = sym (behind_moments (int_cmp a b))
value_parts (value.Number a) (value.Number b) = sym (then_equal (dec_cmp a b))
value_parts (value.Text a) (value.Text b) = sym (behind_nothing (text_order a b))
value_parts (value.Truth true) (value.Truth true) = sym (behind_nothing Equal)
value_parts (value.Truth false) (value.Truth false) = sym (behind_nothing Equal)
value_parts value.Absent value.Absent = sym (behind_nothing Equal)
value_parts (value.Moment a) (value.Truth true) = refl
value_parts (value.Number a) (value.Truth true) = refl
value_parts (value.Text a) (value.Truth true) = refl
value_parts value.Absent (value.Truth true) = refl
value_parts a b = refl

pub value_total : IsTotalOrder value_order
value_total = subst IsTotalOrder (λ i a b. parts_value a b i) in_parts_total
  where
    parts_value : (a b : SortValue) → in_parts a b ≡ value_order a b
    parts_value a b = sym (value_parts a b)

-- ---- one key

abbrev absence : Option SortValue → ℕ
absence None = 1
absence (Some v) = 0

abbrev directed : Bool → Option SortValue → Option SortValue → Ordering
directed false = option_cmp value_order
directed true = flip_args (option_cmp value_order)

directed_total : (down : Bool) → IsTotalOrder (directed down)
directed_total false = options_total value_total
directed_total true = back_total (options_total value_total)

by_absence : (down : Bool) (a b : Option SortValue) → then_cmp (on absence nat_cmp) (directed down) a b ≡ order_by down a b
by_absence false None None = refl
by_absence true None None = refl
by_absence down None (Some b) = refl
by_absence down (Some a) None = refl
by_absence false (Some a) (Some b) = refl
by_absence true (Some a) (Some b) = refl

pub order_by_total : (down : Bool) → IsTotalOrder (order_by down)
order_by_total down = subst IsTotalOrder (λ i a b. by_absence down a b i) (then_total (on_total absence nat_cmp_total) (directed_total down))

-- ---- all keys

pub values_total : (sort : List Key) → IsTotalOrder (values_order sort)
unfolding values_order
values_total [] = point_total
values_total (key ∷ keys) = then_total (on_total first_there (order_by_total key.down)) (on_total others (values_total keys))

pub keys_total : (sort : List Key) → IsTotalOrder (keys_order sort)
keys_total sort =
    then_total (on_total (λ (k : Keys). k.values) (values_total sort))
    (then_total (on_total (λ (k : Keys). k.collection) nat_list_cmp_total) (on_total (λ (k : Keys). k.id) nat_list_cmp_total))
