-- The order of the keys of items under a sort.
use Rattle.std.specs.Prelude.{◌≡◌, ℕ, Bool, true, false, List, [], ◌∷◌, Option, Some, None}
use Rattle.std.specs.declared.cmp.Ordering.{Ordering}
use Rattle.std.specs.declared.cmp.Ordering.TheVariants.{Less, Equal, Greater}
use Rattle.std.specs.Ordering.{nat_cmp, int_cmp, ordering_then}
use Rattle.sc_base.specs.Text.{text_order}
use Rattle.sc_decimal.specs.Number.{dec_cmp}
use Rattle.sc_sort.specs.declared.value.SortValue.{SortValue}
use Rattle.sc_sort.specs.declared.value.SortValue.TheVariants.{Moment, Number, Text, Truth, Absent}
use Rattle.sc_sort.specs.declared.key.Key.{Key}
use Rattle.sc_sort.specs.Keys.{Keys}

-- the kinds of values in their ascending order: moments, numbers, texts, false, true
abbrev pub rank : SortValue → ℕ
rank (Moment at) = 0
rank (Number number) = 1
rank (Text text) = 2
rank (Truth false) = 3
rank (Truth true) = 4
rank Absent = 5

-- ascending: values of one kind by the time, by the number or by the bytes of the text, and else by their kinds
abbrev pub value_order : SortValue → SortValue → Ordering
value_order (Moment a) (Moment b) = int_cmp a b
value_order (Number a) (Number b) = dec_cmp a b
value_order (Text a) (Text b) = text_order a b
value_order a b = nat_cmp (rank a) (rank b)

-- by one key: ascending, or the other way round where the key is down; what is absent comes last in both directions
abbrev pub order_by : Bool → Option SortValue → Option SortValue → Ordering
order_by down None None = Equal
order_by down None (Some b) = Greater
order_by down (Some a) None = Less
order_by false (Some a) (Some b) = value_order a b
order_by true (Some a) (Some b) = value_order b a

-- none of a value that is absent
abbrev pub there : SortValue → Option SortValue
there Absent = None
there value = Some value

-- the value of the first key; one that isn't in the list is absent
abbrev pub first_there : List SortValue → Option SortValue
first_there [] = None
first_there (value ∷ values) = there value

-- the values of the other keys
abbrev pub others : List SortValue → List SortValue
others [] = []
others (value ∷ values) = values

-- the keys count in turn
unfoldable pub values_order : List Key → List SortValue → List SortValue → Ordering
values_order [] a b = Equal
values_order (key ∷ keys) a b = ordering_then (order_by key.down (first_there a) (first_there b)) (values_order keys (others a) (others b))

-- then the collection counts, then the id, both ascending by bytes
abbrev pub keys_order : List Key → Keys → Keys → Ordering
keys_order sort a b =
    ordering_then (values_order sort a.values b.values)
    (ordering_then (text_order a.collection b.collection) (text_order a.id b.id))

-- values that no key tells apart: one moment, equal numbers, one text, one truth, or both absent
abbrev pub AreTied : Option SortValue → Option SortValue → Type 0
AreTied (Some (Number a)) (Some (Number b)) = dec_cmp a b ≡ Equal
AreTied a b = a ≡ b

-- the values are tied at each key of the sort
abbrev pub AllTied : List Key → List SortValue → List SortValue → Type 0
AllTied [] a b = Unit {0}
AllTied (key ∷ keys) a b = AreTied (first_there a) (first_there b) × AllTied keys (others a) (others b)
