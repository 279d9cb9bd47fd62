-- Hulls, joins and meets of bounds, and what they cover.
use Rattle.std.proofs.Common.{List, [], ◌∷◌, map}
use Rattle.std.specs.Prelude.{All}
use Rattle.std.specs.List.{AllByRecursion}
use Rattle.std.proofs.lemmas.List.Elements.{All-map, All-weaker, recursion_from_All, All-from_recursion}
use Rattle.sqlite_keyed.proofs.ListLemmas.{all_unmap}
use Rattle.sc_bounds.specs.declared.reach.Reach.{Reach}
use Rattle.sc_bounds.specs.Places.{IsPlace}
use Rattle.sc_bounds.specs.Extent.{Extent, AreBounds, empty}
use Rattle.sc_bounds.specs.Sets.{Covers, IsWithin, IsReach, join_of, meet_of}
use Rattle.sc_bounds.proofs.Extents.{within_chain, covers_wider, join_is, join_bounds, meet_is, meet_left, meet_covers, hull_is, hull_bounds}
use Rattle.sc_bounds.proofs.MomentSets as moments
use Rattle.sc_bounds.proofs.PointSets as places
use Rattle.sc_item.specs.Feature.{Feature}
use Rattle.sc_load.specs.Load.{IsItemOf}
use Rattle.sc_history.specs.declared.addition.Addition.{Addition}
use Rattle.sc_history.specs.Names.{reach, hull_of}
use Rattle.sc_history.specs.History.{join_all}
use Rattle.sc_history.specs.Sound.{CoversAll}
use Rattle.sc_history.proofs.Boxes.{item_box}

-- ---- joins and meets

pub within_left : (a b : Extent) → IsWithin a (join_of a b)
unfolding join_of
within_left a b = record { starts = moments.join_left a.starts b.starts; ends = moments.join_left a.ends b.ends; place = places.join_left a.place b.place }

pub within_right : (a b : Extent) → IsWithin b (join_of a b)
unfolding join_of
within_right a b = record { starts = moments.join_right a.starts b.starts; ends = moments.join_right a.ends b.ends; place = places.join_right a.place b.place }

pub join_within : (a b c : Extent) → AreBounds a → AreBounds b → IsWithin a c → IsWithin b c → IsWithin (join_of a b) c
join_within a b c ok ok' h k = (join_is a b ok ok').least c h k

pub meet_within : (a b c : Extent) → IsWithin a c → IsWithin (meet_of a b) c
meet_within a b c h = within_chain (meet_of a b) a c (meet_left (meet_of a b) a b (meet_is a b)) h

pub covers_both : (a b : Extent) (r : Reach) → Covers a r → Covers b r → Covers (meet_of a b) r
covers_both a b r h k = (meet_covers (meet_of a b) a b r (meet_is a b)).1 (h, k)

-- ---- items and their hulls

abbrev pub IsBoxed : Feature → Type 0
IsBoxed item = IsPlace item.place

pub boxed : (item : Feature) → IsItemOf item.collection item → IsBoxed item
boxed item is = item_box item.collection item.tree item is

pub all_reaches : (items : List Feature) → All IsBoxed items → All IsReach (map reach items)
all_reaches items all = All-map IsReach reach items all

pub hull_in_order : (items : List Feature) → All IsBoxed items → AreBounds (hull_of items)
hull_in_order items all = hull_bounds (map reach items) (all_reaches items all)

pub hull_covers : (items : List Feature) → All IsBoxed items → CoversAll (hull_of items) items
hull_covers items all = (hull_is (map reach items) (all_reaches items all)).covers

pub hull_least : (b : Extent) (items : List Feature) → All IsBoxed items → CoversAll b items → IsWithin (hull_of items) b
hull_least b items all covers = (hull_is (map reach items) (all_reaches items all)).least b covers

-- ---- covering items, one by one

abbrev pub IsCovered : Extent → Feature → Type 0
IsCovered b item = Covers b (reach item)

pub covered : (b : Extent) (items : List Feature) → CoversAll b items → All (IsCovered b) items
covered b items all = All-from_recursion (IsCovered b) items (all_unmap (Covers b) reach items (recursion_from_All (Covers b) (map reach items) all))

pub covers_all : (b : Extent) (items : List Feature) → All (IsCovered b) items → CoversAll b items
covers_all b items all = All-map (Covers b) reach items all

pub covered_wider : (a b : Extent) (items : List Feature) → IsWithin a b → All (IsCovered a) items → All (IsCovered b) items
covered_wider a b items within all = All-weaker (IsCovered a) (IsCovered b) (λ i h. covers_wider a b (reach i) within h) items all

-- ---- joins of many

pub joins_in_order : (b : Extent) (adds : List Addition) → AreBounds b → AllByRecursion (λ a. AreBounds a.hull) adds → AreBounds (join_all b adds)
joins_in_order b [] ok all = ok
joins_in_order b (a ∷ adds) ok all = join_bounds a.hull (join_all b adds) all.0 (joins_in_order b adds ok all.1)

pub empty_in_order : AreBounds empty
empty_in_order = record { starts = tt; ends = tt; place = tt }
