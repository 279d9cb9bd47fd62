-- What a value that an item lends counts as under a key.
use Rattle.sc_sort.specs.declared.value.SortValue.{SortValue}
use Rattle.sc_sort.specs.declared.value.SortValue.TheVariants as sorts
use Rattle.sc_page.specs.declared.lent.LentValue.{LentValue}
use Rattle.sc_page.specs.declared.lent.LentValue.TheVariants as lent

abbrev pub lent_value : LentValue → SortValue
lent_value (lent.Moment at) = sorts.Moment at
lent_value (lent.Number n) = sorts.Number n
lent_value (lent.Text t) = sorts.Text t.now
lent_value (lent.Truth b) = sorts.Truth b
lent_value lent.Absent = sorts.Absent
