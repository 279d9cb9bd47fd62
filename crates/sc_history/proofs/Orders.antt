-- The order of items is of no account for their scan and their hull, and each item of a content is found by its id.
use Rattle.std.proofs.Common.{◌≡◌, ℕ, Bool, true, false, cond, List, [], ◌∷◌, filter, arith, Some, refl, sym, ap, subst, bytes_eq, IsPermutation, Contains}
use Rattle.std.specs.List.{All}
use Rattle.std.proofs.lemmas.Bool.{and_parts, and_from}
use Rattle.std.proofs.lemmas.List.Elements.{recursion_from_All, All-contains, All-weaker, All-from_recursion}
use Rattle.std.proofs.lemmas.List.Sorted.{All-permutation, Contains-permutation, IsPermutation-sym}
use Rattle.sqlite_trees.specs.Tree.{IsAscending}
use Rattle.sc_bounds.proofs.Extents.{same_bounds}
use Rattle.sc_item.specs.Feature.{Feature}
use Rattle.sc_item.specs.Names.{HaveOneName, AreApart}
use Rattle.sc_cut.specs.declared.name.PartName.{PartName}
use Rattle.sc_load.specs.Load.{IsItemOf}
use Rattle.sc_history.specs.Content.{Content, IsContent, is_item, item_in}
use Rattle.sc_history.specs.Changes.{Change}
use Rattle.sc_history.specs.Names.{belongs, hull_of, part_of, scan_of}
use Rattle.sc_history.specs.History.{replay}
use Rattle.sc_history.specs.Part.{Part}
use Rattle.sc_history.specs.Sound.{StandsAs}
use Rattle.sc_history.proofs.Texts.{never, same_text, text_self}
use Rattle.sc_history.proofs.Lists.{ascending_from_pairs}
use Rattle.sc_history.proofs.Scans.{one_scan, scan_same}
use Rattle.sc_history.proofs.Hulls.{IsBoxed, IsCovered, boxed, covered, covers_all, hull_covers, hull_in_order, hull_least}
use Rattle.sc_history.proofs.Counting.{contains_cases, contains_head, contains_tail}

-- ---- scans and hulls

pub scan_any_order : (collection : List ℕ) (xs ys : List Feature) → All (λ i. i.collection ≡ collection) xs → AreApart xs → IsPermutation xs ys → scan_of xs ≡ scan_of ys
scan_any_order collection xs ys own apart same =
    sym (one_scan collection xs ys (ascending_from_pairs (λ a b. HaveOneName a b → ⊥) xs apart) (recursion_from_All (λ i. i.collection ≡ collection) xs own) same)

pub hull_any_order : (xs ys : List Feature) → All (λ i. IsItemOf i.collection i) xs → IsPermutation xs ys → hull_of xs ≡ hull_of ys
hull_any_order xs ys read same =
    let box = All-weaker (λ i. IsItemOf i.collection i) IsBoxed boxed xs read in
    let box' = All-permutation IsBoxed xs ys same box in
    let here = covers_all (hull_of xs) ys (All-permutation (IsCovered (hull_of xs)) xs ys same (covered (hull_of xs) xs (hull_covers xs box))) in
    let there = covers_all (hull_of ys) xs (All-permutation (IsCovered (hull_of ys)) ys xs (IsPermutation-sym xs ys same) (covered (hull_of ys) ys (hull_covers ys box'))) in
    same_bounds (hull_of xs) (hull_of ys) (hull_in_order xs box) (hull_in_order ys box') (hull_least (hull_of ys) xs box there) (hull_least (hull_of xs) ys box' here)

-- ---- an item by its id

same_name : (a b : Feature) → is_item a.collection a.id b ≡ true → HaveOneName b a
same_name a b e = let both = and_parts (bytes_eq b.collection a.collection) (bytes_eq b.id a.id) e in (same_text b.collection a.collection both.0, same_text b.id a.id both.1)

found_first : (items : List Feature) (item : Feature) → IsAscending (λ a b. HaveOneName a b → ⊥) items → Contains items item → item_in items item.collection item.id ≡ Some item
found_first [] item apart there = nothing_there item there
  where
    nothing_there : (x : Feature) → Contains [] x → item_in [] item.collection item.id ≡ Some item
    nothing_there x (k, lt, is) = absurd (omega (arith, lt))
found_first (x ∷ items) item apart there = go (is_item item.collection item.id x) refl (found_first items item apart.1)
  where
    go : (t : Bool) → is_item item.collection item.id x ≡ t → (Contains items item → item_in items item.collection item.id ≡ Some item) → cond t (Some x) (item_in items item.collection item.id) ≡ Some item
    go true e more = contains_cases x item items there (λ same. ap (λ i. Some i) same) (λ later. absurd (All-contains (λ b. HaveOneName x b → ⊥) items item (All-from_recursion (λ b. HaveOneName x b → ⊥) items apart.0) later (same_name item x e)))
    go false e more = contains_cases x item items there (λ same. never (is_item item.collection item.id item) (and_from _ _ (text_self item.collection) (text_self item.id)) (subst (λ i. is_item item.collection item.id i ≡ false) same e)) more

pub item_found : (content : Content) (item : Feature) → IsContent content → Contains content.items item → item_in content.items item.collection item.id ≡ Some item
item_found content item is there = found_first content.items item (ascending_from_pairs (λ a b. HaveOneName a b → ⊥) content.items is.items_apart) there

filtered : (test : Feature → Bool) (items : List Feature) (item : Feature) → Contains (filter test items) item → Contains items item
filtered test [] item there = there
filtered test (x ∷ items) item there = go (test x) there (filtered test items item)
  where
    go : (t : Bool) → Contains (cond t (x ∷ filter test items) (filter test items)) item → (Contains (filter test items) item → Contains items item) → Contains (x ∷ items) item
    go true there more = contains_cases x item (filter test items) there (λ same. subst (Contains (x ∷ items)) same (contains_head x items)) (λ later. contains_tail x item items (more later))
    go false there more = contains_tail x item items (more there)

-- an item of a part that stands
pub part_item_found : (past : List Change) (name : PartName) (part : Part) (item : Feature) → IsContent (replay past) → StandsAs past name part → Contains part.items item → item_in (replay past).items item.collection item.id ≡ Some item
part_item_found past name part item is old there =
    let scanned = subst (λ l. Contains l item) old.items_are there in
    let here = Contains-permutation (scan_of (part_of (replay past) name)) (part_of (replay past) name) item (IsPermutation-sym _ _ (scan_same (part_of (replay past) name))) scanned in
    item_found (replay past) item is (filtered (belongs (replay past).collections name) (replay past).items item here)
