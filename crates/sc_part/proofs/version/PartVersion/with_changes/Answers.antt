use Rattle.std.proofs.Common.{◌∙◌, ap, length, map, refl, sym, subst}
use Rattle.sc_part.specs.Entry.{ids_of}
use Rattle.sc_part.specs.Index.{AreDistinct, IsIndex}
use Rattle.sc_part.specs.Merged.{IsUp, staying}
use Rattle.sc_part.specs.Scan.{IsScan, after, shared}
use Rattle.sc_part.proofs.Changing.{count_is, id_came_or_stayed, ids_are, kept_after, kept_distinct, merged_is, own_come, permuted_after, same_version, scan_after, staying_is, up_from_scanned, up_of_scan}
use Rattle.sc_part.proofs.Indexing.{entries_after}
use Rattle.sc_part.proofs.version.PartVersion.with_changes.Goals as goal

pub scan_of_items-requires : goal.scan_of_items-requires
scan_of_items-requires c =
    let fits = rw (← c.self.view_is) at c.requires.fits in
    let apart = rw (← c.self.view_is) at c.requires.apart in
    own_come c.self.inside.name c.args.gone.now (shared c.args.come.now) (shared c.self.inside.items.items) fits c.self.invariant.kept.fits apart

pub marks_of-requires-clause-distinct : goal.marks_of-requires-clause-distinct
marks_of-requires-clause-distinct c =
    subst (λ l. AreDistinct (ids_of l)) (sym c.deref.ensures.value) (kept_distinct c.self.inside.name c.self.inside.stamp c.self.inside.items.items c.self.invariant.kept)

pub merge-requires-clause-items : goal.merge-requires-clause-items
merge-requires-clause-items c = subst (λ l. IsUp (shared l)) (sym c.deref-3.ensures.value) (up_from_scanned (shared c.self.inside.items.items) c.self.invariant.kept.ordered)

pub merge-requires-clause-come : goal.merge-requires-clause-come
merge-requires-clause-come c =
    subst (λ l. IsUp (shared l)) (sym c.deref-5.ensures.value) (subst IsUp (sym c.in_ok-arrivals.ensures) (up_of_scan (shared c.args.come.now)))

pub index_after-requires-clause-entries : goal.index_after-requires-clause-entries
index_after-requires-clause-entries c =
    let items = c.self.inside.items.items in
    let marks = c.in_ok-marks.marks.items in
    let merged = c.in_ok-merged.merged in
    let moved = rw (c.deref-3.ensures.value, c.deref-4.ensures.value) at c.in_ok-merged.ensures.moved in
    let came = rw c.deref-5.ensures.value at c.in_ok-merged.ensures.fresh in
    let said = rw (c.deref-3.ensures.value, c.deref-4.ensures.value, c.deref-5.ensures.value) at c.in_ok-merged.ensures.items in
    rw (c.deref-10.ensures.value, c.deref-6.ensures.value, c.deref-7.ensures.value, c.deref-8.ensures.value, c.deref-9.ensures.value)
    (entries_after (ids_of items) (ids_of merged.items.items) c.self.inside.index.items merged.fresh.items marks merged.moved.items (ids_of c.in_ok-arrivals.arrivals.items) (length items) (count_is items) c.self.invariant.index
    (kept_distinct c.self.inside.name c.self.inside.stamp items c.self.invariant.kept) moved came (id_came_or_stayed c.in_ok-arrivals.arrivals.items items merged.items.items marks said))

pub invariant_of-result : goal.invariant_of-result
invariant_of-result c =
    let name = c.self.inside.name in
    let items = c.self.inside.items.items in
    let gone = c.args.gone.now in
    let come = shared c.args.come.now in
    let merged = c.in_ok-merged.merged.items.items in
    let fits = rw (← c.self.view_is) at c.requires.fits in
    let apart = rw (← c.self.view_is) at c.requires.apart in
    let kept = c.self.invariant.kept in
    let marks = rw (c.deref.ensures.value, ids_are items) at c.in_ok-marks.ensures in
    let said = rw (c.deref-3.ensures.value, c.deref-4.ensures.value, c.deref-5.ensures.value) at c.in_ok-merged.ensures.items in
    let stay = ap (λ l. staying l (shared items)) marks ∙ staying_is gone (shared items) in
    let is = merged_is name gone come (shared items) fits kept.fits apart (shared c.in_ok-arrivals.arrivals.items) (staying c.in_ok-marks.marks.items (shared items)) (shared merged) c.in_ok-arrivals.ensures stay said in
    let same = subst (λ l. Rattle.std.proofs.Common.IsPermutation (after gone come (shared items)) (shared l)) (sym c.deref-11.ensures.value) (permuted_after name gone come (shared items) fits kept.fits apart (shared merged) is) in
    record {
      kept = rw c.in_ok-name.ensures (kept_after name gone come (shared items) fits kept.fits apart c.args.stamp (shared merged) is (rw c.deref-11.ensures.value at (c.hull_after-hull.ensures.kept (shared items) kept.each same)));
      index = subst (λ l. IsIndex (ids_of l) c.in_ok-index.index.items) c.deref-10.ensures.value c.in_ok-index.ensures;
      hull = rw c.deref-11.ensures.value at (c.hull_after-hull.ensures.hull (shared items) c.self.invariant.hull same);
    }

pub returns-clause-value : goal.returns-clause-value
returns-clause-value c =
    let name = c.self.inside.name in
    let items = c.self.inside.items.items in
    let gone = c.args.gone.now in
    let come = shared c.args.come.now in
    let fits = rw (← c.self.view_is) at c.requires.fits in
    let apart = rw (← c.self.view_is) at c.requires.apart in
    let kept = c.self.invariant.kept in
    let marks = rw (c.deref.ensures.value, ids_are items) at c.in_ok-marks.ensures in
    let said = rw (c.deref-3.ensures.value, c.deref-4.ensures.value, c.deref-5.ensures.value) at c.in_ok-merged.ensures.items in
    let stay = ap (λ l. staying l (shared items)) marks ∙ staying_is gone (shared items) in
    let is = merged_is name gone come (shared items) fits kept.fits apart (shared c.in_ok-arrivals.arrivals.items) (staying c.in_ok-marks.marks.items (shared items)) (shared c.in_ok-merged.merged.items.items) c.in_ok-arrivals.ensures stay said in
    rw (← c.self.view_is) (same_version _ _ c.args.stamp _ _ c.in_ok-name.ensures is)

pub returns-clause-scan : goal.returns-clause-scan
returns-clause-scan c =
    let name = c.self.inside.name in
    let items = c.self.inside.items.items in
    let gone = c.args.gone.now in
    let come = shared c.args.come.now in
    let fits = rw (← c.self.view_is) at c.requires.fits in
    let apart = rw (← c.self.view_is) at c.requires.apart in
    let kept = c.self.invariant.kept in
    let marks = rw (c.deref.ensures.value, ids_are items) at c.in_ok-marks.ensures in
    let said = rw (c.deref-3.ensures.value, c.deref-4.ensures.value, c.deref-5.ensures.value) at c.in_ok-merged.ensures.items in
    let stay = ap (λ l. staying l (shared items)) marks ∙ staying_is gone (shared items) in
    let is = merged_is name gone come (shared items) fits kept.fits apart (shared c.in_ok-arrivals.arrivals.items) (staying c.in_ok-marks.marks.items (shared items)) (shared c.in_ok-merged.merged.items.items) c.in_ok-arrivals.ensures stay said in
    rw (← c.self.view_is) (subst (IsScan (after gone come (shared items))) (sym is) (scan_after name gone come (shared items) fits kept.fits apart))
