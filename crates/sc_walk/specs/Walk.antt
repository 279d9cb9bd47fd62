-- The walk of a search over the parts of a snapshot: which parts are candidates, where each begins, which are opened, and what that costs.
use Rattle.std.specs.Prelude.{◌≡◌, ℕ, ◌+◌, ℤ, Bool, true, false, ◌&&◌, nat_le, int_le, if◌then◌else◌, List, [], ◌∷◌, length, filter, Option, Some, None, option_map, IsPermutation}
use Rattle.std.specs.List.{AllByRecursion, sum_by}
use Rattle.sqlite_trees.specs.Tree.{IsAscending}
use Rattle.std.specs.declared.cmp.Ordering.{Ordering}
use Rattle.std.specs.declared.cmp.Ordering.TheVariants.{Equal}
use Rattle.std.specs.Ordering.{is_lt}
use Rattle.std.specs.List.Sorted.{IsSorted}
use Rattle.sc_item.specs.Feature.{Feature}
use Rattle.sc_sort.specs.declared.key.Key.{Key}
use Rattle.sc_sort.specs.declared.value.SortValue.{SortValue}
use Rattle.sc_sort.specs.declared.value.SortValue.TheVariants.{Moment, Number, Text, Truth, Absent}
use Rattle.sc_sort.specs.Keys.{Keys}
use Rattle.sc_sort.specs.Order.{order_by, there}
use Rattle.sc_sort.specs.Spec.{is_of_time}
use Rattle.sc_expr.specs.Query.{Asked}
use Rattle.sc_eval.specs.Property.{property_value}
use Rattle.sc_bounds.specs.Extent.{AreBounds}
use Rattle.sc_bounds.specs.Sets.{IsWithin}
use Rattle.sc_history.specs.Part.{Part}
use Rattle.sc_shelf.specs.Kept.{all_items}
use Rattle.sc_need.specs.Need.{need_of}
use Rattle.sc_need.specs.Match.{may_match}
use Rattle.sc_page.specs.ItemKey.{sort_value}
use Rattle.sc_page.specs.Search.{is_asked}

-- ---- fronts: before which value under the first key a part has no item

-- the first start of a part in a direction: its latest where the key is down, else its earliest
abbrev pub first_start : Bool → Part → Option ℤ
first_start true part = option_map (λ starts. starts.1) part.bounds.starts
first_start false part = option_map (λ starts. starts.0) part.bounds.starts

-- the front of a part where the key is the time
abbrev pub front : Bool → Part → Option SortValue
front down part = option_map Moment (first_start down part)

-- the item comes strictly before the front of the part by this key
abbrev pub is_before : Key → Part → Feature → Bool
is_before key part item =
    is_of_time key && is_lt (order_by key.down (there (sort_value (property_value key.name item))) (front key.down part))

-- by the first key of a sort; where that isn't the time, no item is known to come before a part
abbrev pub is_ahead : List Key → Part → Feature → Bool
is_ahead [] part item = false
is_ahead (key ∷ keys) part item = is_before key part item

-- the first key of a sort is the time
abbrev pub begins_with_time : List Key → Bool
begins_with_time [] = false
begins_with_time (key ∷ keys) = is_of_time key

-- which of two parts has the earlier front by the first key of a sort
abbrev pub front_order : List Key → Part → Part → Ordering
front_order [] p q = Equal
front_order (key ∷ keys) p q = if is_of_time key then order_by key.down (front key.down p) (front key.down q) else Equal

-- ---- candidates

-- the moment that a place begins with
abbrev pub first_moment : List SortValue → Option ℤ
first_moment [] = None
first_moment (Moment at ∷ values) = Some at
first_moment (Number n ∷ values) = None
first_moment (Text t ∷ values) = None
first_moment (Truth b ∷ values) = None
first_moment (Absent ∷ values) = None

abbrev pub moment_of : Option Keys → Option ℤ
moment_of None = None
moment_of (Some place) = first_moment place.values

-- the part has starts that don't all come strictly before the moment in a direction
abbrev pub reaches : Bool → ℤ → Option (ℤ × ℤ) → Bool
reaches down at None = false
reaches true at (Some starts) = int_le starts.0 at
reaches false at (Some starts) = int_le at starts.1

abbrev pub reaches_moment : Key → Option ℤ → Part → Bool
reaches_moment key None part = true
reaches_moment key (Some at) part = if is_of_time key then reaches key.down at part.bounds.starts else true

-- the part may have an item behind the place: under a sort by time not where all its starts come before the place's moment
abbrev pub may_follow : List Key → Option Keys → Part → Bool
may_follow [] after part = true
may_follow (key ∷ keys) after part = reaches_moment key (moment_of after) part

-- the part may have an item that is asked for
unfoldable pub is_candidate : Asked → Part → Bool
is_candidate asked part = may_match (need_of asked.select) part.bounds part.name && may_follow asked.sort asked.after part

-- ---- what is opened

-- all items that are asked for
abbrev pub found : Asked → List Part → List Feature
found asked parts = filter (is_asked asked) (all_items parts)

-- at most `limit` of all that are asked for come strictly before the part's front
abbrev pub is_within : Asked → List Part → Part → Bool
is_within asked parts part = nat_le (length (filter (is_ahead asked.sort part) (found asked parts))) asked.limit

-- the walk opens the candidates that it can't leave out by what comes before them
abbrev pub is_opened : Asked → List Part → Part → Bool
is_opened asked parts part = is_candidate asked part && is_within asked parts part

-- a step for each part, and one for each of its items
abbrev pub cost : List Part → ℕ
cost parts = sum_by (λ part. 1 + length part.items) parts

-- ---- the walk over candidates

-- no item of the part is ahead of it
abbrev pub HasNoneAhead : List Key → Part → Type 0
HasNoneAhead sort part = AllByRecursion (λ item. is_ahead sort part item ≡ false) part.items

-- what is ahead of the first is ahead of the second
abbrev pub Rises : List Key → Part → Part → Type 0
Rises sort p q = (item : Feature) → is_ahead sort p item ≡ true → is_ahead sort q item ≡ true

-- parts in the order in which they are walked
pub record AreCandidates (sort : List Key) (parts : List Part) : Type 0 where
  pub own : AllByRecursion (HasNoneAhead sort) parts
  pub rise : IsAscending (Rises sort) parts

-- the last of the first items, which are as many as are kept, is ahead of the part
abbrev pub is_done : List Key → Option Feature → Part → Bool
is_done sort None part = false
is_done sort (Some last) part = is_ahead sort part last

-- the same parts in the order of their fronts
pub record AreSorted (sort : List Key) (old new : List Part) : Type 0 where
  pub same : IsPermutation old new
  pub sorted : IsSorted (front_order sort) new

-- ---- narrower bounds

-- the same part with bounds that lie within
pub record IsNarrower (narrow wide : Part) : Type 0 where
  pub name : narrow.name ≡ wide.name
  pub items : narrow.items ≡ wide.items
  pub in_order : AreBounds narrow.bounds
  pub within : IsWithin narrow.bounds wide.bounds

-- part by part
abbrev pub AreNarrower : List Part → List Part → Type 0
AreNarrower [] [] = Unit {0}
AreNarrower [] (wide ∷ wides) = ⊥
AreNarrower (narrow ∷ narrows) [] = ⊥
AreNarrower (narrow ∷ narrows) (wide ∷ wides) = IsNarrower narrow wide × AreNarrower narrows wides
