-- What a search costs over the parts of a snapshot is what it costs over what it sees of them.
use Rattle.std.proofs.Common.{◌≡◌, ℕ, ◌+◌, ℤ, option_map, Bool, true, false, cond, ◌&&◌, nat_le, List, [], ◌∷◌, ◌++◌, length, map, filter, Option, Some, None, refl, sym, ap, ◌∙◌}
use Rattle.std.specs.List.{AllByRecursion, fold}
use Rattle.std.specs.Ordering.{is_lt}
use Rattle.sc_item.specs.Feature.{Feature}
use Rattle.sc_sort.specs.declared.key.Key.{Key}
use Rattle.sc_sort.specs.declared.value.SortValue.TheVariants.{Moment}
use Rattle.sc_sort.specs.Keys.{Keys}
use Rattle.sc_sort.specs.Order.{order_by, there}
use Rattle.sc_sort.specs.Spec.{is_of_time}
use Rattle.sc_eval.specs.Property.{property_value}
use Rattle.sc_need.specs.Match.{may_match}
use Rattle.sc_need.specs.Need.{need_of}
use Rattle.sc_page.specs.ItemKey.{sort_value}
use Rattle.sc_page.specs.Search.{is_asked}
use Rattle.sc_expr.specs.Query.{Asked}
use Rattle.sc_history.specs.Content.{Content}
use Rattle.sc_history.specs.Changes.{Change}
use Rattle.sc_history.specs.Names.{part_of, scan_of}
use Rattle.sc_history.specs.History.{back, replay}
use Rattle.sc_history.specs.Part.{Part}
use Rattle.sc_history.specs.Sound.{StandsAs}
use Rattle.sc_history.specs.Views.{Snap}
use Rattle.sc_history.proofs.Belonging.{each_stands}
use Rattle.sc_shelf.specs.Kept.{all_items}
use Rattle.sc_catalog.specs.declared.entry.Entry.{Entry}
use Rattle.sc_catalog.specs.Entries.{TellsOf}
use Rattle.sc_walk.specs.Walk.{cost, first_start, found, is_ahead, is_candidate, is_opened, may_follow, moment_of, reaches_moment}
use Rattle.sc_machine.specs.Searches.{cost_at, part_with}
use Rattle.sc_machine.specs.Inside.{IsOfHistory, bounds_of_parts, taken}
use Rattle.sc_machine.proofs.Searching.{stands}

-- what a search sees of a part
abbrev plain : Part → Part
plain part = record { name = part.name; stamp = 0; items = part.items; bounds = part.bounds; kept_from = 0; additions = [] }

seen_with : (content : Content) (parts : List Part) → AllByRecursion (λ p. p.items ≡ scan_of (part_of content p.name)) parts → map (part_with content) (bounds_of_parts parts) ≡ map plain parts
seen_with content [] all = refl
seen_with content (p ∷ parts) all =
    ap (λ (items : List Feature). record { name = p.name; stamp = 0; items = items; bounds = p.bounds; kept_from = 0; additions = [] } ∷ map (part_with content) (bounds_of_parts parts)) (sym all.0)
    ∙ ap (λ (l : List Part). plain p ∷ l) (seen_with content parts all.1)

items_seen : (parts : List Part) → all_items (map plain parts) ≡ all_items parts
items_seen [] = refl
items_seen (p ∷ parts) = ap (λ (l : List Feature). p.items ++ l) (items_seen parts)

start_seen : (down : Bool) (part : Part) → first_start down (plain part) ≡ first_start down part
start_seen true part = refl
start_seen false part = refl

ahead_seen : (sort : List Key) (part : Part) (item : Feature) → is_ahead sort (plain part) item ≡ is_ahead sort part item
ahead_seen [] part item = refl
ahead_seen (key ∷ sort) part item =
    ap (λ o. is_of_time key && is_lt (order_by key.down (there (sort_value (property_value key.name item))) (option_map Moment o))) (start_seen key.down part)

follow_seen : (sort : List Key) (after : Option Keys) (part : Part) → may_follow sort after (plain part) ≡ may_follow sort after part
follow_seen [] after part = refl
follow_seen (key ∷ sort) after part = go (moment_of after)
  where
    go : (o : Option ℤ) → reaches_moment key o (plain part) ≡ reaches_moment key o part
    go None = refl
    go (Some at) = refl

candidate_seen : (asked : Asked) (part : Part) → is_candidate asked (plain part) ≡ is_candidate asked part
unfolding is_candidate
candidate_seen asked part = ap (λ b. may_match (need_of asked.select) part.bounds part.name && b) (follow_seen asked.sort asked.after part)

opened_seen : (asked : Asked) (parts : List Part) (part : Part) → is_opened asked (map plain parts) (plain part) ≡ is_opened asked parts part
opened_seen asked parts part =
    ap (λ b. b && nat_le (length (filter (is_ahead asked.sort (plain part)) (found asked (map plain parts)))) asked.limit) (candidate_seen asked part)
    ∙ ap (λ (items : List Feature). is_candidate asked part && nat_le (length (filter (is_ahead asked.sort (plain part)) (filter (is_asked asked) items))) asked.limit) (items_seen parts)
    ∙ ap (λ (test : Feature → Bool). is_candidate asked part && nat_le (length (filter test (found asked parts))) asked.limit) (λ i item. ahead_seen asked.sort part item i)

fold_seen : (a : ℕ) (parts : List Part) → fold (λ n (p : Part). n + (1 + length p.items)) a (map plain parts) ≡ fold (λ n (p : Part). n + (1 + length p.items)) a parts
fold_seen a [] = refl
fold_seen a (p ∷ parts) = fold_seen (a + (1 + length p.items)) parts

filter_seen : (test seen : Part → Bool) → ((part : Part) → seen (plain part) ≡ test part) → (parts : List Part) → filter seen (map plain parts) ≡ map plain (filter test parts)
filter_seen test seen same [] = refl
filter_seen test seen same (p ∷ parts) =
    ap (λ (b : Bool). cond b (plain p ∷ filter seen (map plain parts)) (filter seen (map plain parts))) (same p) ∙ go (test p) (filter_seen test seen same parts)
  where
    go : (b : Bool) → filter seen (map plain parts) ≡ map plain (filter test parts) → cond b (plain p ∷ filter seen (map plain parts)) (filter seen (map plain parts)) ≡ map plain (cond b (p ∷ filter test parts) (filter test parts))
    go true more = ap (λ (l : List Part). plain p ∷ l) more
    go false more = more

cost_seen : (test seen : Part → Bool) → ((part : Part) → seen (plain part) ≡ test part) → (parts : List Part) → cost (filter seen (map plain parts)) ≡ cost (filter test parts)
cost_seen test seen same parts = ap cost (filter_seen test seen same parts) ∙ fold_seen 0 (filter test parts)

own_items : (past : List Change) (parts : List Part) → AllByRecursion (λ p. StandsAs past p.name p) parts → AllByRecursion (λ p. p.items ≡ scan_of (part_of (replay past) p.name)) parts
own_items past [] all = tt
own_items past (p ∷ parts) all = (all.0.items_are, own_items past parts all.1)

-- the cost by the history is that of the snapshot's parts
pub cost_is : (entries : List Entry) (snap : Snap) (past : List Change) → TellsOf entries past → IsOfHistory entries snap → (asked : Asked) → cost (filter (is_opened asked snap.parts) snap.parts) ≡ cost_at past (taken snap) asked
cost_is entries snap past told of asked =
    let then_past : List Change = back snap.revision past in
    let seen = seen_with (replay then_past) snap.parts (own_items then_past snap.parts (each_stands then_past snap.parts (stands entries snap past told of).stand)) in
    sym (ap (λ (l : List Part). cost (filter (is_opened asked l) l)) seen ∙ cost_seen (is_opened asked snap.parts) (is_opened asked (map plain snap.parts)) (opened_seen asked snap.parts) snap.parts)
