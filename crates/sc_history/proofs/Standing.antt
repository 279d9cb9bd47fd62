-- What a load leaves of a part is what the longer history says of its name.
use Rattle.std.proofs.Common.{◌≡◌, ℕ, ◌+◌, ◌-◌, Bool, true, false, not, cond, List, [], ◌∷◌, length, filter, Option, Some, None, refl, sym, ap, ◌∙◌, subst}
use Rattle.std.specs.Prelude.{All}
use Rattle.std.proofs.lemmas.List.{append-nil}
use Rattle.std.proofs.lemmas.List.Elements.{All-filter, All-append, All-from_recursion}
use Rattle.sqlite_keyed.proofs.ListLemmas.{all_weaker}
use Rattle.sc_bounds.specs.Extent.{Extent, empty}
use Rattle.sc_bounds.specs.Sets.{join_of}
use Rattle.sc_bounds.proofs.Extents.{join_bounds, within_chain}
use Rattle.sc_item.specs.Feature.{Feature}
use Rattle.sc_cut.specs.declared.name.PartName.{PartName}
use Rattle.sc_load.specs.Load.{collection_of, IsItemOf}
use Rattle.sc_history.specs.Content.{IsContent}
use Rattle.sc_history.specs.Changes.{Change, apply, takes}
use Rattle.sc_history.specs.Names.{belongs, hull_of, is_empty, part_of, scan_of}
use Rattle.sc_history.specs.History.{replay, comes, touches, birth, additions, loose}
use Rattle.sc_history.specs.Refusals.{IsAllowed}
use Rattle.sc_history.specs.Part.{Part, lookup}
use Rattle.sc_history.specs.Touch.{ArePublished, made, part_after, renewed, stamped, touched, unless_empty, widened}
use Rattle.sc_history.specs.Sound.{CoversAll, Stand, Stands, StandsAs}
use Rattle.sc_history.proofs.Scans.{all_scanned, empty_is, scan_empty, scan_nothing}
use Rattle.sc_history.proofs.Contents.{IsOwn, content_after, puts_own}
use Rattle.sc_history.proofs.Parts.{part_untouched, scan_after_load, touched_collection}
use Rattle.sc_history.proofs.Numbers.{additions_made, additions_more, additions_same, birth_made, birth_stays, first_dropped, stamp_touched, stamp_untouched, take_again}
use Rattle.sc_history.proofs.Hulls.{IsBoxed, IsCovered, boxed, covered, covered_wider, covers_all, hull_covers, hull_in_order, join_within, within_left, within_right}

-- ---- the next content

replay_next : (past : List Change) (change : Change) → replay (change ∷ past) ≡ apply (replay past) change
unfolding replay
replay_next past change = refl

-- what the next content is, and the items that come
pub record Next (past : List Change) (change : Change) : Type 0 where
  pub allowed : IsAllowed (replay past) change
  pub before : IsContent (replay past)
  pub after : IsContent (apply (replay past) change)

pub next : (past : List Change) (change : Change) → IsContent (replay past) → IsAllowed (replay past) change → Next past change
next past change is t = record { allowed = t; before = is; after = content_after (replay past) change t is }

pub come_boxed : (past : List Change) (change : Change) (name : PartName) → Next past change → All IsBoxed (comes (replay past) change name)
come_boxed past change name n =
    let owned = puts_own (replay past).items change.load change.come n.allowed.formed n.allowed.puts in
    let all = all_weaker (IsOwn (collection_of change.load)) IsBoxed (λ i o. boxed i (subst (λ c. IsItemOf c i) (sym o.0) o.1)) change.come owned in
    All-filter (belongs (apply (replay past) change).collections name) IsBoxed change.come (All-from_recursion IsBoxed change.come all)

pub scan_next : (past : List Change) (change : Change) (name : PartName) → Next past change → touches (replay past) change name ≡ true
    → scan_of (part_of (replay (change ∷ past)) name) ≡ scan_of (renewed (takes change.load) (comes (replay past) change name) (scan_of (part_of (replay past) name)))
unfolding replay
scan_next past change name n e = scan_after_load (replay past) change name n.allowed n.before n.after (touched_collection (replay past) change name n.allowed e)

-- ---- a part that is left

unless_stands : (past : List Change) (name : PartName) (part : Part) → part.items ≡ scan_of (part_of (replay past) name) → (is_empty part.items ≡ false → StandsAs past name part) → Stands past name (unless_empty part)
unless_stands past name part is stands = go (is_empty part.items) refl
  where
    go : (b : Bool) → is_empty part.items ≡ b → Stands past name (cond b None (Some part))
    go true e = empty_is (part_of (replay past) name) (sym (scan_empty (part_of (replay past) name)) ∙ ap is_empty (sym is) ∙ e)
    go false e = stands e

some_came : (come : List Feature) → is_empty (scan_of come) ≡ false → is_empty come ≡ false
some_came come e = sym (scan_empty come) ∙ e

-- a part that wasn't there
stands_made : (past : List Change) (change : Change) (name : PartName) → Next past change → part_of (replay past) name ≡ [] → touches (replay past) change name ≡ true
    → Stands (change ∷ past) name (touched (length past + 1) name (takes change.load) (comes (replay past) change name) None)
unfolding touched
stands_made past change name n none e =
    let r = length past + 1 in
    let come = comes (replay past) change name in
    let box = come_boxed past change name n in
    let before : scan_of (part_of (replay past) name) ≡ [] = ap scan_of none ∙ scan_nothing in
    let items : scan_of (part_of (replay (change ∷ past)) name) ≡ scan_of come = scan_next past change name n e ∙ rw before (ap scan_of (append-nil come)) in
    unless_stands (change ∷ past) name (made r name come) (sym items) (λ some.
    let born = birth_made past change name (ap is_empty none) (sym (scan_empty (part_of (replay (change ∷ past)) name)) ∙ ap is_empty items ∙ some) in
    let adds = additions_made past change name born (some_came come some) in
    record {
      name_is = refl;
      items_are = sym items;
      some = some;
      stamp_is = sym (stamp_touched past change name e);
      additions_are = rw adds refl;
      kept_is = rw (adds, born) refl;
      in_order = hull_in_order come box;
      covers = covers_all (hull_of come) (scan_of come) (all_scanned (IsCovered (hull_of come)) come (covered (hull_of come) come (hull_covers come box)));
      within = rw adds (within_left (hull_of come) empty);
    })

-- bounds that cover what comes and what was there cover what is there then
renewed_covered : (b : Extent) (taken : List ℕ → Bool) (come items : List Feature) → All (IsCovered b) come → All (IsCovered b) items → CoversAll b (scan_of (renewed taken come items))
renewed_covered b taken come items h k =
    covers_all b (scan_of (renewed taken come items))
    (all_scanned (IsCovered b) (renewed taken come items) (All-append (IsCovered b) come (filter (λ i. not (taken i.id)) items) h (All-filter (λ i. not (taken i.id)) (IsCovered b) items k)))

nothing_covered : (b : Extent) → All (IsCovered b) []
nothing_covered b = All-from_recursion (IsCovered b) [] tt

-- a part that was there
stands_aged : (past : List Change) (change : Change) (name : PartName) (part : Part) → Next past change → StandsAs past name part → touches (replay past) change name ≡ true
    → Stands (change ∷ past) name (touched (length past + 1) name (takes change.load) (comes (replay past) change name) (Some part))
unfolding touched
stands_aged past change name part n old e =
    let items : scan_of (part_of (replay (change ∷ past)) name) ≡ scan_of (renewed (takes change.load) (comes (replay past) change name) part.items) =
    scan_next past change name n e ∙ ap (λ l. scan_of (renewed (takes change.load) (comes (replay past) change name) l)) (sym old.items_are) in
    let was : is_empty (part_of (replay past) name) ≡ false = sym (scan_empty (part_of (replay past) name)) ∙ ap is_empty (sym old.items_are) ∙ old.some in
    go (comes (replay past) change name) refl (come_boxed past change name n) items (birth_stays past change name was)
  where
    go : (come : List Feature) → comes (replay past) change name ≡ come → All IsBoxed come → scan_of (part_of (replay (change ∷ past)) name) ≡ scan_of (renewed (takes change.load) come part.items) → birth (change ∷ past) name ≡ birth past name
        → Stands (change ∷ past) name (unless_empty (widened (length past + 1) come (stamped (length past + 1) (scan_of (renewed (takes change.load) come part.items)) part)))
    go [] c box items stays =
        let adds = additions_same past change name stays (ap is_empty c) in
        unless_stands (change ∷ past) name (stamped (length past + 1) (scan_of (renewed (takes change.load) [] part.items)) part) (sym items) (λ some. record {
          name_is = old.name_is;
          items_are = sym items;
          some = some;
          stamp_is = sym (stamp_touched past change name e);
          additions_are = old.additions_are ∙ rw adds refl;
          kept_is = old.kept_is ∙ rw (adds, stays) refl;
          in_order = old.in_order;
          covers = renewed_covered part.bounds (takes change.load) [] part.items (nothing_covered part.bounds) (covered part.bounds part.items old.covers);
          within = rw adds old.within;
        })
    go (x ∷ xs) c box items stays =
        let r = length past + 1 in
        let more = hull_of (x ∷ xs) in
        let adds : additions (change ∷ past) name ≡ record { revision = r; hull = more } ∷ additions past name = additions_more past change name stays (ap is_empty c) ∙ ap (λ (l : List Feature). record { revision = r; hull = hull_of l } ∷ additions past name) c in
        unless_stands (change ∷ past) name (widened r (x ∷ xs) (stamped r (scan_of (renewed (takes change.load) (x ∷ xs) part.items)) part)) (sym items) (λ some. record {
          name_is = old.name_is;
          items_are = sym items;
          some = some;
          stamp_is = sym (stamp_touched past change name e);
          additions_are = rw (adds, old.additions_are) (take_again 64 _ (additions past name));
          kept_is = rw (adds, old.kept_is, old.additions_are, stays) (first_dropped (birth past name - 1) 63 (additions past name));
          in_order = join_bounds part.bounds more old.in_order (hull_in_order (x ∷ xs) box);
          covers = renewed_covered (join_of part.bounds more) (takes change.load) (x ∷ xs) part.items
              (covered_wider more (join_of part.bounds more) (x ∷ xs) (within_right part.bounds more) (covered more (x ∷ xs) (hull_covers (x ∷ xs) box)))
              (covered_wider part.bounds (join_of part.bounds more) part.items (within_left part.bounds more) (covered part.bounds part.items old.covers));
          within = rw adds (join_within part.bounds more (join_of more (loose past name)) old.in_order (hull_in_order (x ∷ xs) box)
              (within_chain part.bounds (loose past name) (join_of more (loose past name)) old.within (within_right more (loose past name)))
              (within_left more (loose past name)));
        })

pub stands_touched : (past : List Change) (change : Change) (name : PartName) (old : Option Part) → Next past change → Stands past name old → touches (replay past) change name ≡ true
    → Stands (change ∷ past) name (touched (length past + 1) name (takes change.load) (comes (replay past) change name) old)
stands_touched past change name None n old e = stands_made past change name n old e
stands_touched past change name (Some part) n old e = stands_aged past change name part n old e

-- ---- a part that the load doesn't touch

pub next_untouched : (past : List Change) (change : Change) (name : PartName) → Next past change → touches (replay past) change name ≡ false
    → (comes (replay past) change name ≡ []) × (part_of (replay (change ∷ past)) name ≡ part_of (replay past) name)
unfolding replay
next_untouched past change name n e = part_untouched (replay past) change name n.allowed n.before e

pub part_same : (past : List Change) (change : Change) (name : PartName) → Next past change → touches (replay past) change name ≡ false → part_of (replay (change ∷ past)) name ≡ part_of (replay past) name
part_same past change name n e = (next_untouched past change name n e).1

pub stands_untouched : (past : List Change) (change : Change) (name : PartName) (old : Option Part) → Next past change → Stands past name old → touches (replay past) change name ≡ false → Stands (change ∷ past) name old
stands_untouched past change name None n old e = part_same past change name n e ∙ old
stands_untouched past change name (Some part) n old e =
    let both = next_untouched past change name n e in
    let was : is_empty (part_of (replay past) name) ≡ false = sym (scan_empty (part_of (replay past) name)) ∙ ap is_empty (sym old.items_are) ∙ old.some in
    let stays = birth_stays past change name was in
    let adds = additions_same past change name stays (ap is_empty both.0) in
    record {
      name_is = old.name_is;
      items_are = old.items_are ∙ ap scan_of (sym both.1);
      some = old.some;
      stamp_is = old.stamp_is ∙ sym (stamp_untouched past change name e);
      additions_are = old.additions_are ∙ rw adds refl;
      kept_is = old.kept_is ∙ rw (adds, stays) refl;
      in_order = old.in_order;
      covers = old.covers;
      within = rw adds old.within;
    }

-- ---- all parts

pub stands_next : (past : List Change) (change : Change) (name : PartName) (old : Option Part) → Next past change → Stands past name old → Stands (change ∷ past) name (part_after past change name old)
stands_next past change name old n stands = go (touches (replay past) change name) refl
  where
    go : (b : Bool) → touches (replay past) change name ≡ b → Stands (change ∷ past) name (cond b (touched (length past + 1) name (takes change.load) (comes (replay past) change name) old) old)
    go true e = stands_touched past change name old n stands e
    go false e = stands_untouched past change name old n stands e

pub stand_next : (past : List Change) (change : Change) (old new : List Part) → Next past change → Stand past old → ArePublished past change old new → Stand (change ∷ past) new
stand_next past change old new n stand are = record {
  rise = are.rise;
  each = λ name. subst (Stands (change ∷ past) name) (sym (are.each name)) (stands_next past change name (lookup name old) n (stand.each name));
}
