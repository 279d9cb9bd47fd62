-- Parts of a content by their names: which items they have, and the order of names. How items fit a name, stand and lie is said of the parts themselves.
use Rattle.std.specs.Prelude.{◌≡◌, ◌↔◌, ℕ, Bool, true, false, ◌&&◌, ◌==◌, ℤ, pos, int_le, List, [], ◌∷◌, map, filter, Contains}
use Rattle.std.specs.Str.{bytes_eq}
use Rattle.std.specs.List.{list_any, AllPairs}
use Rattle.std.specs.declared.cmp.Ordering.{Ordering}
use Rattle.std.specs.declared.cmp.Ordering.TheVariants.{Less}
use Rattle.std.specs.Ordering.{nat_cmp, int_cmp, int_eq, then_cmp, on}
use Rattle.sc_base.specs.Text.{text_order}
use Rattle.sc_item.specs.Feature.{Feature}
use Rattle.sc_cut.specs.declared.cut.Cut.{Cut}
use Rattle.sc_cut.specs.declared.cut.Cut.TheVariants.{Whole, Year, Month}
use Rattle.sc_cut.specs.declared.name.PartName.{PartName}
use Rattle.sc_cut.specs.Key.{has_key}
use Rattle.sc_bounds.specs.Extent.{Extent}
use Rattle.sc_bounds.specs.Sets.{hull}
pub use Rattle.sc_part.specs.Scan.{Fits, scan_order, reach}
unfoldable pub use Rattle.sc_part.specs.Scan.{scan_of}
use Rattle.sc_history.specs.Content.{Collection, Content, is_called}

-- ---- names

-- the place of a cut among the three
abbrev pub cut_place : Cut → ℕ
cut_place Whole = 0
cut_place Year = 1
cut_place Month = 2

abbrev pub is_cut : Cut → Cut → Bool
is_cut a b = cut_place a == cut_place b

abbrev pub is_name : PartName → PartName → Bool
is_name a b = bytes_eq a.collection b.collection && is_cut a.cut b.cut && int_eq a.key b.key

-- by collection, then by cut, then by key
abbrev pub name_order : PartName → PartName → Ordering
name_order = then_cmp (on (λ n. n.collection) text_order) (then_cmp (on (λ n. cut_place n.cut) nat_cmp) (on (λ n. n.key) int_cmp))

-- ---- their items

-- whether instants of the years 0000 to 9999 have the key
abbrev pub is_key : Cut → ℤ → Bool
is_key Whole key = int_eq key (pos 0)
is_key Year key = int_le (pos 0) key && int_le key (pos 9_999)
is_key Month key = int_le (pos 0) key && int_le key (pos 119_999)

-- whether the item fits the name, as a test
abbrev pub fits : PartName → Feature → Bool
fits name item = bytes_eq item.collection name.collection && is_key name.cut name.key && has_key name.cut name.key item.start

-- whether the name's collection is there, with the name's cut
abbrev pub has_cut : List Collection → PartName → Bool
has_cut collections name = list_any (λ c. is_called name.collection c && is_cut c.cut name.cut) collections

-- whether the item belongs to the part
abbrev pub belongs : List Collection → PartName → Feature → Bool
belongs collections name item = has_cut collections name && fits name item

-- the items of a part; none where its collection isn't there or is cut otherwise
abbrev pub part_of : Content → PartName → List Feature
part_of content name = filter (belongs content.collections name) content.items

-- whether a list has no element
abbrev pub is_empty : {X : Type 0} → List X → Bool
is_empty [] = true
is_empty (x ∷ xs) = false

-- the names of the parts that have an item
pub record ArePartsOf (content : Content) (names : List PartName) : Type 0 where
  pub rise : AllPairs (λ a b. name_order a b ≡ Less) names
  pub all : (name : PartName) → Contains names name ↔ (is_empty (part_of content name) ≡ false)

-- the smallest bounds that cover the items
abbrev pub hull_of : List Feature → Extent
hull_of items = hull (map reach items)
