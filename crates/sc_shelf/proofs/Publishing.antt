-- The changes that a load makes publish what it leaves of each part.
use Rattle.std.proofs.Common.{◌≡◌, ℕ, ◌+◌, ◌-◌, ◌&&◌, Bool, true, false, cond, not, List, [], ◌∷◌, ◌++◌, length, filter, take, drop, Option, Some, None, refl, sym, ap, ◌∙◌, subst, bytes_eq, true≢false, arith, IsPermutation}
use Rattle.std.specs.Prelude.{IfSome, is_some}
use Rattle.std.specs.List.{All, AllByRecursion, list_any}
use Rattle.std.proofs.lemmas.List.{append-nil}
use Rattle.std.proofs.lemmas.List.Elements.{All-filter, recursion_from_All, All-from_recursion, filter_passes}
use Rattle.std.proofs.lemmas.List.Sorted.{All-permutation, IsPermutation-append, IsPermutation-cons, IsPermutation-middle, IsPermutation-refl, IsPermutation-trans, length_permutation}
use Rattle.sqlite_trees.specs.Tree.{IsAscending}
use Rattle.sqlite_keyed.proofs.ListLemmas.{all_weaker, all_both, along_permutation, IsPermutation-filter}
use Rattle.sc_item.specs.Feature.{Feature}
use Rattle.sc_item.specs.Names.{HaveOneName, AreApart}
use Rattle.sc_cut.specs.declared.name.PartName.{PartName}
use Rattle.sc_load.specs.declared.load.Load.TheVariants.{DropCollection}
use Rattle.sc_load.specs.Load.{IsItemOf}
use Rattle.sc_history.specs.Changes.{Change, apply, goes, is_among, takes}
use Rattle.sc_history.specs.Names.{Fits, belongs, fits, has_cut, hull_of, is_empty, is_name, part_of, scan_of}
use Rattle.sc_bounds.specs.Sets.{join_of}
use Rattle.sc_history.specs.History.{replay, comes, first_revision, touches}
use Rattle.sc_history.specs.Part.{Part, lookup}
use Rattle.sc_history.specs.Touch.{ArePublished, made, part_after, renewed, stamped, touched, unless_empty, widened}
use Rattle.sc_history.specs.Sound.{Stand, Stands, StandsAs}
use Rattle.sc_history.proofs.Lists.{pairs_from_ascending, filter_alike}
use Rattle.sc_history.proofs.Orders.{scan_any_order, hull_any_order}
use Rattle.sc_history.proofs.Names.{name_self, same_name}
use Rattle.sc_history.proofs.Keys.{fits_is, item_instant}
use Rattle.sc_history.proofs.Scans.{scan_empty, scan_nothing, scan_same}
use Rattle.sc_history.proofs.Finding.{drop_takes_all}
use Rattle.sc_history.proofs.Parts.{part_after_load, part_apart, part_owned, stay_alike, touched_collection}
use Rattle.sc_history.proofs.Standing.{Next}
use Rattle.std.proofs.lemmas.Bool.{and_parts}
use Rattle.sc_shelf.specs.declared.change.PartChange.{PartChange}
use Rattle.sc_shelf.specs.Changed.{AreChanged, AreChangesOf, AreWithout, IsChangeOf, change_of, changed, come_by, items_in}
use Rattle.sc_shelf.specs.Loads.{AreChangesBy, IsChangeBy}
use Rattle.sc_shelf.proofs.Between.{all_split}
use Rattle.sc_shelf.proofs.Owning.{find_holds}

-- ---- items that are apart, in any order

-- what holds of each two elements, in whatever order, holds of them in another list of the same
any_order : {X : Type 0} (S : X → X → Type 0) → ((a b : X) → S a b → S b a) → (xs ys : List X) → IsPermutation xs ys → IsAscending S xs → IsAscending S ys
any_order {X} S turned xs ys same up = (along_permutation Keeps (λ l. (IsPermutation-refl l, λ u. u)) under exchanged (λ a b d f g. (IsPermutation-trans a b d f.0 g.0, λ u. g.1 (f.1 u))) xs ys same).1 up
  where
    Keeps : List X → List X → Type 0
    Keeps a b = IsPermutation a b × (IsAscending S a → IsAscending S b)

    under : (x : X) (a b : List X) → Keeps a b → Keeps (x ∷ a) (x ∷ b)
    under x a b f = (IsPermutation-cons x a b f.0, λ u. (recursion_from_All (S x) b (All-permutation (S x) a b f.0 (All-from_recursion (S x) a u.0)), f.1 u.1))

    exchanged : (x y : X) (a : List X) → Keeps (x ∷ y ∷ a) (y ∷ x ∷ a)
    exchanged x y a = (IsPermutation-middle (x ∷ []) y a, λ u. ((turned x y u.0.0, u.1.0), (u.0.1, u.1.1)))

apart_in_any_order : (xs ys : List Feature) → IsPermutation xs ys → IsAscending (λ a b. HaveOneName a b → ⊥) xs → AreApart ys
apart_in_any_order xs ys same up =
    pairs_from_ascending (λ a b. HaveOneName a b → ⊥) ys (any_order (λ a b. HaveOneName a b → ⊥) (λ a b ne one. ne (sym one.0, sym one.1)) xs ys same up)

-- ---- touched alike

none_alike : {X : Type 0} (xs ys : List X) → length ys ≡ length xs → is_empty xs ≡ is_empty ys
none_alike [] [] e = refl
none_alike [] (y ∷ ys) e = absurd (omega (arith, e))
none_alike (x ∷ xs) [] e = absurd (omega (arith, e))
none_alike (x ∷ xs) (y ∷ ys) e = refl

widened_alike : (revision : ℕ) (come other : List Feature) (part : Part) → is_empty come ≡ is_empty other → hull_of come ≡ hull_of other → widened revision come part ≡ widened revision other part
widened_alike revision [] [] part e h = refl
widened_alike revision [] (y ∷ other) part e h = absurd (true≢false e)
widened_alike revision (x ∷ come) [] part e h = absurd (true≢false (sym e))
widened_alike revision (x ∷ come) (y ∷ other) part e h = ap (λ b. record {
  name = part.name;
  stamp = part.stamp;
  items = part.items;
  bounds = join_of part.bounds b;
  kept_from = first_revision part.kept_from (drop 63 part.additions);
  additions = take 64 (record { revision = revision; hull = b } ∷ part.additions);
}) h

made_alike : (revision : ℕ) (name : PartName) (come other : List Feature) → scan_of come ≡ scan_of other → hull_of come ≡ hull_of other → made revision name come ≡ made revision name other
made_alike revision name come other s h = λ i. record {
  name = name;
  stamp = revision;
  items = s i;
  bounds = h i;
  kept_from = revision - 1;
  additions = record { revision = revision; hull = h i } ∷ [];
}

touched_alike : (revision : ℕ) (name : PartName) (taken taken' : List ℕ → Bool) (come other : List Feature) (part : Option Part) → is_empty come ≡ is_empty other → hull_of come ≡ hull_of other
    → scan_of (renewed taken come (items_in part)) ≡ scan_of (renewed taken' other (items_in part)) → touched revision name taken come part ≡ touched revision name taken' other part
unfolding touched
touched_alike revision name taken taken' come other None e h s =
    ap unless_empty (made_alike revision name come other (sym (ap scan_of (append-nil come)) ∙ s ∙ ap scan_of (append-nil other)) h)
touched_alike revision name taken taken' come other (Some part) e h s =
    ap unless_empty (widened_alike revision come other (stamped revision (scan_of (renewed taken come part.items)) part) e h
    ∙ ap (λ items. widened revision other (stamped revision items part)) s)

-- ---- what stands

stand_items : (past : List Change) (name : PartName) (part : Option Part) → Stands past name part → items_in part ≡ scan_of (part_of (replay past) name)
stand_items past name None none = sym (ap scan_of none ∙ scan_nothing)
stand_items past name (Some part) is = is.items_are

gone_alike : (gone : List (List ℕ)) (taken : List ℕ → Bool) (part : Option Part) → IfSome part (λ p. All (λ item. is_among gone item.id ≡ taken item.id) p.items)
    → filter (λ item. not (is_among gone item.id)) (items_in part) ≡ filter (λ item. not (taken item.id)) (items_in part)
gone_alike gone taken None same = refl
gone_alike gone taken (Some part) same =
    filter_alike (λ item. not (is_among gone item.id)) (λ item. not (taken item.id)) part.items
    (all_weaker (λ item. is_among gone item.id ≡ taken item.id) (λ item. not (is_among gone item.id) ≡ not (taken item.id)) (λ item e. ap not e) part.items (recursion_from_All (λ item. is_among gone item.id ≡ taken item.id) part.items same))

-- ---- one change

module _ (past : List Change) (change : Change) (old : List Part) (next : Next past change) (stand : Stand past old) where
  come_read : (name : PartName) → All (λ item. IsItemOf item.collection item) (comes (replay past) change name)
  come_read name =
      let all = all_split (λ item. IsItemOf item.collection item) change.come (filter (λ item. not (goes change.load item)) (replay past).items) (recursion_from_All (λ item. IsItemOf item.collection item) _ next.after.read) in
      All-filter (belongs (apply (replay past) change).collections name) (λ item. IsItemOf item.collection item) change.come (All-from_recursion (λ item. IsItemOf item.collection item) change.come all.0)

  come_fits : (name : PartName) → All (Fits name) (comes (replay past) change name)
  come_fits name =
      All-from_recursion (Fits name) (comes (replay past) change name)
      (all_both (λ item. IsItemOf item.collection item) (λ item. belongs (apply (replay past) change).collections name item ≡ true) (Fits name)
      (λ item read e. fits_is name item (item_instant item.collection item.tree item read) (and_parts (has_cut (apply (replay past) change).collections name) (fits name item) e).1)
      (comes (replay past) change name) (recursion_from_All (λ item. IsItemOf item.collection item) (comes (replay past) change name) (come_read name))
      (recursion_from_All (λ item. belongs (apply (replay past) change).collections name item ≡ true) (comes (replay past) change name) (filter_passes (belongs (apply (replay past) change).collections name) change.come)))

  module _ (c : PartChange) (is : IsChangeBy past change old c) (touches_it : touches (replay past) change c.name ≡ true) where
    same_items : items_in (lookup c.name old) ≡ scan_of (part_of (replay past) c.name)
    same_items = stand_items past c.name (lookup c.name old) (stand.each c.name)

    left : filter (λ item. not (goes change.load item)) (part_of (replay past) c.name) ≡ filter (λ item. not (takes change.load item.id)) (part_of (replay past) c.name)
    left = stay_alike (replay past) change.load c.name (touched_collection (replay past) change c.name next.allowed touches_it)

    stay : filter (λ item. not (is_among c.gone item.id)) (items_in (lookup c.name old)) ≡ filter (λ item. not (takes change.load item.id)) (scan_of (part_of (replay past) c.name))
    stay = gone_alike c.gone (takes change.load) (lookup c.name old) is.gone ∙ ap (filter (λ item. not (takes change.load item.id))) same_items

    stayed : IsPermutation (filter (λ item. not (takes change.load item.id)) (part_of (replay past) c.name)) (filter (λ item. not (is_among c.gone item.id)) (items_in (lookup c.name old)))
    stayed =
        subst (IsPermutation (filter (λ item. not (takes change.load item.id)) (part_of (replay past) c.name))) (sym stay)
        (IsPermutation-filter (λ item. not (takes change.load item.id)) (part_of (replay past) c.name) (scan_of (part_of (replay past) c.name)) (scan_same (part_of (replay past) c.name)))

    after_is : part_of (apply (replay past) change) c.name ≡ comes (replay past) change c.name ++ filter (λ item. not (takes change.load item.id)) (part_of (replay past) c.name)
    after_is = part_after_load (replay past) change c.name next.allowed next.before ∙ ap (λ l. comes (replay past) change c.name ++ l) left

    moved : IsPermutation (part_of (apply (replay past) change) c.name) (renewed (is_among c.gone) (come_by c) (items_in (lookup c.name old)))
    moved =
        subst (λ l. IsPermutation l (renewed (is_among c.gone) (come_by c) (items_in (lookup c.name old)))) (sym after_is)
        (IsPermutation-append (comes (replay past) change c.name) (come_by c) _ _ is.come stayed)

    apart : AreApart (renewed (is_among c.gone) (come_by c) (items_in (lookup c.name old)))
    apart = apart_in_any_order _ _ moved (part_apart (apply (replay past) change) c.name next.after)

    pub can_change : IsChangeOf (lookup c.name old) c
    can_change = record { fits = All-permutation (Fits c.name) (comes (replay past) change c.name) (come_by c) is.come (come_fits c.name); apart = apart }

    owned : All (λ item. item.collection ≡ c.name.collection) (part_of (apply (replay past) change) c.name)
    owned = All-from_recursion (λ item. item.collection ≡ c.name.collection) (part_of (apply (replay past) change) c.name) (part_owned (apply (replay past) change) c.name)

    swapped : IsPermutation (part_of (apply (replay past) change) c.name) (renewed (takes change.load) (comes (replay past) change c.name) (items_in (lookup c.name old)))
    swapped =
        subst (λ l. IsPermutation (part_of (apply (replay past) change) c.name) (comes (replay past) change c.name ++ l)) (sym (ap (filter (λ item. not (takes change.load item.id))) same_items))
        (subst (λ l. IsPermutation l (comes (replay past) change c.name ++ filter (λ item. not (takes change.load item.id)) (scan_of (part_of (replay past) c.name)))) (sym after_is)
        (IsPermutation-append (comes (replay past) change c.name) (comes (replay past) change c.name) _ _ (IsPermutation-refl (comes (replay past) change c.name))
        (IsPermutation-filter (λ item. not (takes change.load item.id)) (part_of (replay past) c.name) (scan_of (part_of (replay past) c.name)) (scan_same (part_of (replay past) c.name)))))

    apart_after : AreApart (part_of (apply (replay past) change) c.name)
    apart_after = pairs_from_ascending (λ a b. HaveOneName a b → ⊥) (part_of (apply (replay past) change) c.name) (part_apart (apply (replay past) change) c.name next.after)

    scans : scan_of (renewed (is_among c.gone) (come_by c) (items_in (lookup c.name old))) ≡ scan_of (renewed (takes change.load) (comes (replay past) change c.name) (items_in (lookup c.name old)))
    scans = sym (scan_any_order c.name.collection (part_of (apply (replay past) change) c.name) _ owned apart_after moved) ∙ scan_any_order c.name.collection (part_of (apply (replay past) change) c.name) _ owned apart_after swapped

    pub changed_is : (revision : ℕ) → changed revision c.name (Some c) (lookup c.name old) ≡ touched revision c.name (takes change.load) (comes (replay past) change c.name) (lookup c.name old)
    changed_is revision =
        touched_alike revision c.name (is_among c.gone) (takes change.load) (come_by c) (comes (replay past) change c.name) (lookup c.name old)
        (sym (none_alike (comes (replay past) change c.name) (come_by c) (length_permutation (comes (replay past) change c.name) (come_by c) is.come)))
        (sym (hull_any_order (comes (replay past) change c.name) (come_by c) (come_read c.name) is.come)) scans

-- ---- all changes

abbrev IsSomeOf : Option PartChange → Type 0
IsSomeOf None = ⊥
IsSomeOf (Some c) = Unit {0}

module _ (past : List Change) (change : Change) (old : List Part) (changes : List PartChange) (next : Next past change) (stand : Stand past old) (by : AreChangesBy past change old changes) where
  one_touches : (c : PartChange) → (found : Option PartChange) → change_of c.name changes ≡ found → IsSomeOf found → touches (replay past) change c.name ≡ true
  one_touches c None e some = absurd some
  one_touches c (Some d) e some = sym (by.touched c.name) ∙ ap is_some e

  -- each is the change of its name
  own_change : (cs : List PartChange) → AllByRecursion (λ c. IsSomeOf (change_of c.name cs)) cs
  own_change [] = tt
  own_change (c ∷ cs) = (rw (name_self c.name) tt, all_weaker (λ d. IsSomeOf (change_of d.name cs)) (λ d. IsSomeOf (change_of d.name (c ∷ cs))) (λ d some. go d (is_name c.name d.name) some) cs (own_change cs))
    where
      go : (d : PartChange) (t : Bool) → IsSomeOf (change_of d.name cs) → IsSomeOf (cond t (Some c) (change_of d.name cs))
      go d true some = tt
      go d false some = some

  pub all_can_change : AreChangesOf old changes
  all_can_change = record {
    rise = by.rise;
    each = All-from_recursion (λ c. IsChangeOf (lookup c.name old) c) changes
        (all_both (λ c. IsSomeOf (change_of c.name changes)) (IsChangeBy past change old) (λ c. IsChangeOf (lookup c.name old) c)
        (λ c some is. can_change past change old next stand c is (one_touches c (change_of c.name changes) refl some)) changes (own_change changes) (recursion_from_All (IsChangeBy past change old) changes by.each));
  }

  module _ (new : List Part) (are : AreChanged (length past + 1) changes old new) where
    each_published : (name : PartName) (found : Option PartChange) → change_of name changes ≡ found → IfSome found (λ c. IsChangeBy past change old c × (is_name c.name name ≡ true)) → lookup name new ≡ part_after past change name (lookup name old)
    each_published name None e is =
        let untouched : touches (replay past) change name ≡ false = sym (by.touched name) ∙ ap is_some e in
        are.each name ∙ ap (λ f. changed (length past + 1) name f (lookup name old)) e ∙ rw untouched refl
    each_published name (Some c) e is =
        let touched_it : touches (replay past) change name ≡ true = sym (by.touched name) ∙ ap is_some e in
        let same : c.name ≡ name = same_name c.name name is.1 in
        are.each name ∙ ap (λ f. changed (length past + 1) name f (lookup name old)) e
        ∙ subst (λ n. changed (length past + 1) n (Some c) (lookup n old) ≡ touched (length past + 1) n (takes change.load) (comes (replay past) change n) (lookup n old)) same
        (changed_is past change old next stand c is.0 (subst (λ n. touches (replay past) change n ≡ true) (sym same) touched_it) (length past + 1))
        ∙ rw touched_it refl

    pub are_published : ArePublished past change old new
    are_published = record {
      rise = are.rise;
      each = λ name. each_published name (change_of name changes) refl
          (find_holds (IsChangeBy past change old) (λ c. is_name c.name name) changes (recursion_from_All (IsChangeBy past change old) changes by.each));
    }

-- ---- a collection goes

drops : (id : List ℕ) (item : Feature) (name : PartName) → item.collection ≡ name.collection → goes (DropCollection id) item ≡ bytes_eq name.collection id
drops id item name same = rw same (and_true (bytes_eq name.collection id))
  where
    and_true : (b : Bool) → (b && true) ≡ b
    and_true true = refl
    and_true false = refl

any_same : (test : Feature → Bool) (b : Bool) (items : List Feature) → is_empty items ≡ false → AllByRecursion (λ item. test item ≡ b) items → list_any test items ≡ b
any_same test b [] some all = absurd (true≢false some)
any_same test true (x ∷ items) some all = rw all.0 refl
any_same test false (x ∷ items) some all = rw all.0 (go items all.1)
  where
    go : (xs : List Feature) → AllByRecursion (λ item. test item ≡ false) xs → list_any test xs ≡ false
    go [] all = refl
    go (x ∷ xs) all = rw all.0 (go xs all.1)

pub drop_publishes : (past : List Change) (id : List ℕ) (old new : List Part) → Stand past old → AreWithout id old new → ArePublished past (record { load = DropCollection id; come = [] }) old new
drop_publishes past id old new stand are = record { rise = are.rise; each = λ name. are.each name ∙ each name (lookup name old) (stand.each name) }
  where
    there : (name : PartName) (part : Part) (b : Bool) → bytes_eq name.collection id ≡ b → StandsAs past name part
        → cond b None (Some part) ≡ cond (list_any (goes (DropCollection id)) (part_of (replay past) name)) (touched (length past + 1) name (takes (DropCollection id)) [] (Some part)) (Some part)
    there name part b e is =
        let some : is_empty (part_of (replay past) name) ≡ false = sym (scan_empty (part_of (replay past) name)) ∙ ap is_empty (sym is.items_are) ∙ is.some in
        let all = all_weaker (λ item. item.collection ≡ name.collection) (λ item. goes (DropCollection id) item ≡ b) (λ item same. drops id item name same ∙ e) (part_of (replay past) name) (part_owned (replay past) name) in
        rw (any_same (goes (DropCollection id)) b (part_of (replay past) name) some all) (go b)
      where
        go : (t : Bool) → cond t None (Some part) ≡ cond t (touched (length past + 1) name (takes (DropCollection id)) [] (Some part)) (Some part)
        go true = sym (drop_takes_all (length past + 1) name id (Some part))
        go false = refl

    none : (b : Bool) (x : Option Part) → cond b x x ≡ x
    none true x = refl
    none false x = refl

    each : (name : PartName) (part : Option Part) → Stands past name part → cond (bytes_eq name.collection id) None part ≡ part_after past (record { load = DropCollection id; come = [] }) name part
    each name None empty = none (bytes_eq name.collection id) None ∙ rw empty refl
    each name (Some part) is = there name part (bytes_eq name.collection id) refl is
