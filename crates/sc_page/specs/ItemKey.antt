-- What an item is ordered by under a sort (STAC API, Sort extension), and the order of items under it.
use Rattle.std.specs.Prelude.{ℕ, suc, zero, List, [], map, take, if◌then◌else◌}
use Rattle.std.specs.declared.cmp.Ordering.{Ordering}
use Rattle.std.specs.Str.{is_utf8}
use Rattle.sc_item.specs.Feature.{Feature}
use Rattle.sc_sort.specs.declared.key.Key.{Key}
use Rattle.sc_sort.specs.declared.value.SortValue.{SortValue}
use Rattle.sc_sort.specs.declared.value.SortValue.TheVariants as sorts
use Rattle.sc_sort.specs.Keys.{Keys}
use Rattle.sc_sort.specs.Order.{keys_order}
use Rattle.sc_eval.specs.Property.{PropertyValue, absent, text, number, truth, moment, shape, other, property_value}

-- the longest front of a text that has whole characters and at most so many bytes
unfoldable pub front_of_text : ℕ → List ℕ → List ℕ
front_of_text zero t = []
front_of_text (suc n) t = if is_utf8 (take (suc n) t) then take (suc n) t else front_of_text n t

-- what counts of a value: of a text its first 128 bytes; a shape and what can't be compared are absent
abbrev pub sort_value : PropertyValue → SortValue
sort_value absent = sorts.Absent
sort_value (text t) = sorts.Text (front_of_text 128 t)
sort_value (number n) = sorts.Number n
sort_value (truth b) = sorts.Truth b
sort_value (moment at) = sorts.Moment at
sort_value (shape g) = sorts.Absent
sort_value other = sorts.Absent

-- what an item has under each key
abbrev pub values_of : List Key → Feature → List SortValue
values_of sort item = map (λ key. sort_value (property_value key.name item)) sort

abbrev pub key_of : List Key → Feature → Keys
key_of sort item = record { values = values_of sort item; collection = item.collection; id = item.id }

-- which of two items comes first
abbrev pub item_order : List Key → Feature → Feature → Ordering
item_order sort a b = keys_order sort (key_of sort a) (key_of sort b)
