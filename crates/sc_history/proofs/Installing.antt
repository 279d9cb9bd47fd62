-- The hull of what a part had at a revision and the additions since cover what it has now, so an install keeps what the part stands for.
use Rattle.std.proofs.Common.{◌≡◌, ℕ, suc, ◌+◌, ◌≤◌, Bool, true, false, not, cond, eqb, nat_lt, List, [], ◌∷◌, ◌++◌, length, filter, Option, Some, None, refl, sym, ap, ◌∙◌, subst, arith, ltb-false, eqb-true, option_map}
use Rattle.std.specs.Prelude.{All}
use Rattle.std.specs.List.{AllByRecursion}
use Rattle.std.proofs.lemmas.List.Elements.{All-filter, All-append, All-weaker}
use Rattle.sqlite_keyed.proofs.ListLemmas.{all-filter}
use Rattle.sc_bounds.specs.Extent.{Extent, AreBounds}
use Rattle.sc_bounds.specs.Sets.{IsWithin, join_of}
use Rattle.sc_bounds.proofs.Extents.{meet_bounds, within_chain}
use Rattle.sc_item.specs.Feature.{Feature}
use Rattle.sc_cut.specs.declared.name.PartName.{PartName}
use Rattle.sc_load.specs.Load.{IsItemOf}
use Rattle.sc_history.specs.Changes.{Change, goes}
use Rattle.sc_history.specs.Names.{belongs, hull_of, is_empty, is_name, part_of, scan_of}
use Rattle.sc_history.specs.History.{replay, back, comes, touches, stamp, birth, added, additions, kept_from, join_all, loose}
use Rattle.sc_history.specs.Taken.{IsPast}
use Rattle.sc_history.specs.Part.{Part, lookup}
use Rattle.sc_history.specs.Installs.{AreInstalled, bounds_after, installed, joined_bounds, later, with_bounds}
use Rattle.sc_history.specs.Sound.{CoversAll, Stand, Stands, StandsAs}
use Rattle.sc_history.specs.Views.{IsTight}
use Rattle.sc_history.proofs.Scans.{all_scanned, all_unscanned, empty_is}
use Rattle.sc_history.proofs.Parts.{part_after_load}
use Rattle.sc_history.proofs.Numbers.{added_more, added_nothing, added_same, all_taken, later_kept, none_after, stamp_reached}
use Rattle.sc_history.proofs.Hulls.{IsBoxed, IsCovered, boxed, covered, covered_wider, covers_all, covers_both, hull_covers, hull_in_order, hull_least, joins_in_order, meet_within, within_left, within_right}
use Rattle.sc_history.proofs.Standing.{Next, come_boxed, part_same}
use Rattle.sc_history.proofs.Pasts.{back_less, back_past, back_whole, past_content, past_next}
use Rattle.sc_history.proofs.Names.{same_name}

-- ---- the items of a part have boxes

pub part_boxed : (past : List Change) (name : PartName) → IsPast past → All IsBoxed (part_of (replay past) name)
part_boxed past name is =
    let content = past_content past is in
    All-filter (belongs (replay past).collections name) IsBoxed (replay past).items (All-weaker (λ item. IsItemOf item.collection item) IsBoxed boxed (replay past).items content.read)

pub added_in_order : (past : List Change) (name : PartName) → IsPast past → AllByRecursion (λ a. AreBounds a.hull) (added past name)
unfolding added
added_in_order [] name is = tt
added_in_order (change ∷ past) name is = go (is_empty (comes (replay past) change name)) (added_in_order past name is.1)
  where
    go : (b : Bool) → AllByRecursion (λ a. AreBounds a.hull) (added past name)
        → AllByRecursion (λ a. AreBounds a.hull) (cond b (added past name) (record { revision = length past + 1; hull = hull_of (comes (replay past) change name) } ∷ added past name))
    go true more = more
    go false more = (hull_in_order (comes (replay past) change name) (come_boxed past change name (past_next past change is.1 is.0.allowed)), more)

-- ---- what stood then and what came since cover what stands now

part_next : (past : List Change) (change : Change) (name : PartName) → Next past change
    → part_of (replay (change ∷ past)) name ≡ comes (replay past) change name ++ filter (λ item. not (goes change.load item)) (part_of (replay past) name)
unfolding replay
part_next past change name n = part_after_load (replay past) change name n.allowed n.before

at_least : (revision count : ℕ) → nat_lt revision (count + 1) ≡ false → suc count ≤ revision
at_least revision count e = let h = ltb-false revision (count + 1) e in omega (arith, h)

later_covers : (past : List Change) (name : PartName) (revision : ℕ) (b : Extent) → IsPast past → All (IsCovered b) (part_of (replay (back revision past)) name) → All (IsCovered (join_all b (later revision (added past name)))) (part_of (replay past) name)
unfolding back
later_covers [] name revision b is all = subst (λ l. All (IsCovered (join_all b (later revision l))) (part_of (replay []) name)) (sym (added_nothing name)) all
later_covers (change ∷ past) name revision b is all = go (nat_lt revision (length past + 1)) refl (later_covers past name revision b is.1) all
  where
    came : List Feature
    came = comes (replay past) change name

    stay : List Feature
    stay = filter (λ item. not (goes change.load item)) (part_of (replay past) name)

    n : Next past change
    n = past_next past change is.1 is.0.allowed

    before : Extent
    before = join_all b (later revision (added past name))

    step : (t : Bool) → is_empty came ≡ t → nat_lt revision (length past + 1) ≡ true → All (IsCovered before) (part_of (replay past) name) → All (IsCovered (join_all b (later revision (added (change ∷ past) name)))) (came ++ stay)
    step true e lt old =
        rw (added_same past change name e, empty_is came e) (All-filter (λ item. not (goes change.load item)) (IsCovered before) (part_of (replay past) name) old)
    step false e lt old =
        let now = hull_of came in
        rw (added_more past change name e, lt)
        (All-append (IsCovered (join_of now before)) came stay
        (covered_wider now (join_of now before) came (within_left now before) (covered now came (hull_covers came (come_boxed past change name n))))
        (covered_wider before (join_of now before) stay (within_right now before) (All-filter (λ item. not (goes change.load item)) (IsCovered before) (part_of (replay past) name) old)))

    go : (t : Bool) → nat_lt revision (length past + 1) ≡ t → (All (IsCovered b) (part_of (replay (back revision past)) name) → All (IsCovered before) (part_of (replay past) name))
        → All (IsCovered b) (part_of (replay (cond t (back revision past) (change ∷ past))) name) → All (IsCovered (join_all b (later revision (added (change ∷ past) name)))) (part_of (replay (change ∷ past)) name)
    go true e more all = subst (All (IsCovered (join_all b (later revision (added (change ∷ past) name))))) (sym (part_next past change name n)) (step (is_empty came) refl e (more all))
    go false e more all = rw (none_after (change ∷ past) name revision (at_least revision (length past) e)) all

-- nothing changed since the stamp
pub since_stamp : (past : List Change) (name : PartName) → IsPast past → part_of (replay (back (stamp past name) past)) name ≡ part_of (replay past) name
unfolding stamp
since_stamp [] name is = ap (λ p. part_of (replay p) name) (back_whole [] 0 (omega arith))
since_stamp (change ∷ past) name is = go (touches (replay past) change name) refl (since_stamp past name is.1)
  where
    go : (t : Bool) → touches (replay past) change name ≡ t → part_of (replay (back (stamp past name) past)) name ≡ part_of (replay past) name
        → part_of (replay (back (cond t (length past + 1) (stamp past name)) (change ∷ past))) name ≡ part_of (replay (change ∷ past)) name
    go true e more = ap (λ p. part_of (replay p) name) (back_whole (change ∷ past) (length past + 1) (omega arith))
    go false e more = ap (λ p. part_of (replay p) name) (back_less past change (stamp past name) (stamp_reached past name)) ∙ more ∙ sym (part_same past change name (past_next past change is.1 is.0.allowed) e)

-- ---- the bounds that an install leaves

-- a hull, and the additions that a part keeps
joins_kept : (past : List Change) (name : PartName) (revision : ℕ) (b : Extent) (part : Part) → IsPast past → StandsAs past name part → AreBounds b → AreBounds (join_all b (later revision part.additions))
joins_kept past name revision b part is old ok =
    let all = added_in_order past name is in
    let since = all-filter (λ a. AreBounds a.hull) (λ a. not (nat_lt a.revision (birth past name))) (added past name) all in
    let kept = subst (AllByRecursion (λ a. AreBounds a.hull)) (sym old.additions_are) (all_taken (λ a. AreBounds a.hull) 64 (additions past name) since) in
    joins_in_order b (later revision part.additions) ok (all-filter (λ a. AreBounds a.hull) (λ a. nat_lt revision a.revision) part.additions kept)

joined_covers : (past : List Change) (name : PartName) (revision : ℕ) (b : Extent) (part : Part) → IsPast past → StandsAs past name part → CoversAll b (scan_of (part_of (replay (back revision past)) name)) → part.kept_from ≤ revision
    → CoversAll (joined_bounds revision b part) part.items
joined_covers past name revision b part is old all le =
    let le' : kept_from past name ≤ revision = rw old.kept_is at le in
    let then_ = all_unscanned (IsCovered b) (part_of (replay (back revision past)) name) (covered b (scan_of (part_of (replay (back revision past)) name)) all) in
    let now = all_scanned (IsCovered (join_all b (later revision (added past name)))) (part_of (replay past) name) (later_covers past name revision b is then_) in
    let kept : later revision part.additions ≡ later revision (added past name) = ap (later revision) old.additions_are ∙ later_kept past name revision le' in
    let now' : All (IsCovered (join_all b (later revision part.additions))) part.items = rw (kept, old.items_are) now in
    let was = covered part.bounds part.items old.covers in
    covers_all (joined_bounds revision b part) part.items (λ k d lt. covers_both part.bounds (join_all b (later revision part.additions)) _ (was k d lt) (now' k d lt))

rebound : (past : List Change) (name : PartName) (part : Part) (b : Extent) → StandsAs past name part → AreBounds b → CoversAll b part.items → IsWithin b (loose past name) → StandsAs past name (with_bounds b part)
rebound past name part b old ok covers within = record {
  name_is = old.name_is;
  items_are = old.items_are;
  some = old.some;
  stamp_is = old.stamp_is;
  additions_are = old.additions_are;
  kept_is = old.kept_is;
  in_order = ok;
  covers = covers;
  within = within;
}

-- whichever answer an install gives, the part stands, and its bounds are no wider
pub stands_installed : (past : List Change) (name : PartName) (revision : ℕ) (b : Extent) (part : Part) → IsPast past → StandsAs past name part → IsTight past name revision b
    → StandsAs past name (installed revision b part) × IsWithin (bounds_after revision b part) part.bounds
stands_installed past name revision b part is old tight = go (eqb revision part.stamp) refl (nat_lt revision part.kept_from) refl
  where
    items : List Feature
    items = scan_of (part_of (replay (back revision past)) name)

    then_boxed : All IsBoxed items
    then_boxed = all_scanned IsBoxed (part_of (replay (back revision past)) name) (part_boxed (back revision past) name (back_past past revision is))

    now_boxed : All IsBoxed part.items
    now_boxed = subst (All IsBoxed) (sym old.items_are) (all_scanned IsBoxed (part_of (replay past) name) (part_boxed past name is))

    ok : AreBounds b
    ok = subst AreBounds (sym tight.hull_is) (hull_in_order items then_boxed)

    covers : CoversAll b items
    covers = subst (λ e. CoversAll e items) (sym tight.hull_is) (hull_covers items then_boxed)

    same : revision ≡ part.stamp → b ≡ hull_of part.items
    same e = tight.hull_is ∙ ap (λ r. hull_of (scan_of (part_of (replay (back r past)) name))) (e ∙ old.stamp_is) ∙ ap (λ l. hull_of (scan_of l)) (since_stamp past name is) ∙ ap hull_of (sym old.items_are)

    go : (s : Bool) → eqb revision part.stamp ≡ s → (t : Bool) → nat_lt revision part.kept_from ≡ t
        → StandsAs past name (with_bounds (cond s b (cond t part.bounds (joined_bounds revision b part))) part) × IsWithin (cond s b (cond t part.bounds (joined_bounds revision b part))) part.bounds
    go true e t f =
        let hull_is = same (eqb-true revision part.stamp e) in
        let least : IsWithin b part.bounds = subst (λ x. IsWithin x part.bounds) (sym hull_is) (hull_least part.bounds part.items now_boxed old.covers) in
        (rebound past name part b old ok (subst (λ x. CoversAll x part.items) (sym hull_is) (hull_covers part.items now_boxed)) (within_chain b part.bounds (loose past name) least old.within), least)
    go false e true f = (rebound past name part part.bounds old old.in_order old.covers old.within, record { starts = λ at h. h; ends = λ at h. h; place = λ point h. h })
    go false e false f =
        let le = ltb-false revision part.kept_from f in
        let kept = joins_kept past name revision b part is old ok in
        let within : IsWithin (joined_bounds revision b part) part.bounds = meet_within part.bounds (join_all b (later revision part.additions)) part.bounds (record { starts = λ at h. h; ends = λ at h. h; place = λ point h. h }) in (
          rebound past name part (joined_bounds revision b part) old (meet_bounds part.bounds (join_all b (later revision part.additions)) old.in_order kept) (joined_covers past name revision b part is old covers le)
              (within_chain (joined_bounds revision b part) part.bounds (loose past name) within old.within),
          within,
        )

-- ---- all parts

pub stands_install : (past : List Change) (name : PartName) (revision : ℕ) (b : Extent) (part : Option Part) → IsPast past → Stands past name part → IsTight past name revision b → Stands past name (option_map (installed revision b) part)
stands_install past name revision b None is old tight = old
stands_install past name revision b (Some part) is old tight = (stands_installed past name revision b part is old tight).0

pub stand_installed : (past : List Change) (name : PartName) (revision : ℕ) (b : Extent) (old new : List Part) → IsPast past → Stand past old → IsTight past name revision b → AreInstalled name revision b old new → Stand past new
stand_installed past name revision b old new is stand tight are = record { rise = are.rise; each = λ other. subst (Stands past other) (sym (are.each other)) (go other (is_name name other) refl) }
  where
    go : (other : PartName) (t : Bool) → is_name name other ≡ t → Stands past other (cond t (option_map (installed revision b) (lookup name old)) (lookup other old))
    go other true e = subst (λ x. Stands past x (option_map (installed revision b) (lookup name old))) (same_name name other e) (stands_install past name revision b (lookup name old) is (stand.each name) tight)
    go other false e = stand.each other
