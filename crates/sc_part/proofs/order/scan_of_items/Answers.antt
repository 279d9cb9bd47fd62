use Rattle.std.proofs.Common.{rules, Global, Ordering, ◌≡◌, false, ap, sym, ◌∙◌, subst, is_eq}
use Rattle.std.specs.declared.sync.Arc.{Arc}
use Rattle.std.specs.Arc.{arc_value}
use Rattle.std.proofs.lemmas.Cmp.{on_total}
use Rattle.std.proofs.lemmas.List.Sorted.{ranks_by}
use Rattle.std.proofs.lemmas.Fn.{always_returns_same}
use Rattle.sqlite_keyed.specs.Lists.{sort_by}
use Rattle.sqlite_keyed.proofs.ListLemmas.{ascending_from_map}
use Rattle.sqlite_keyed.proofs.SortLemmas.{sort_by-map, sorted_is-sort_by}
use Rattle.sc_item.specs.Feature.{Feature}
use Rattle.sc_part.specs.Scan.{HaveOwnIds, scan_of, scan_order, shared}
use Rattle.sc_part.proofs.Scanning.{no_ties, scan_total}
use Rattle.sc_part.proofs.order.scan_of_items.Goals as goal

pub returns : goal.returns
unfolding scan_of
returns c =
    let xs = c.in_ok-scan.scan.items in
    let cmp : Arc Feature Global → Arc Feature Global → Ordering = λ a b. scan_order (arc_value a) (arc_value b) in
    let own = subst HaveOwnIds (sym c.in_ok-scan.ensures) c.requires in
    let apart = ascending_from_map (λ a b. is_eq (scan_order a b) ≡ false) arc_value xs (no_ties (shared xs) own) in
    let sorted = c.in_ok-sort_by.ensures.sorted _ (ranks_by scan_total arc_value) (always_returns_same _ _ _ (λ a r f' k. search rules)) in
    ap shared (sorted_is-sort_by cmp (on_total arc_value scan_total) xs _ apart c.in_ok-sort_by.ensures.permutation sorted)
    ∙ sym (sort_by-map scan_order arc_value xs) ∙ ap (sort_by scan_order) c.in_ok-scan.ensures
