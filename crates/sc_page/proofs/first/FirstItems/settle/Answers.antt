use Rattle.std.proofs.Common.{◌≡◌, List, length, IsSorted, arith, rules, refl, subst}
use Rattle.std.specs.Arc.{arc_value}
use Rattle.std.specs.declared.alloc.Global.{Global}
use Rattle.std.specs.declared.sync.Arc.{Arc}
use Rattle.std.proofs.lemmas.Bool.Decides.{nat_tests}
use Rattle.std.proofs.lemmas.Fn.{always_returns_same}
use Rattle.std.proofs.lemmas.List.Sorted.{ranks_by}
use Rattle.sc_item.specs.Feature.{Feature}
use Rattle.sc_sort.specs.declared.key.Key.{Key}
use Rattle.sc_page.specs.ItemKey.{item_order}
use Rattle.sc_page.proofs.Collected.{sorted_in}
use Rattle.sc_page.proofs.ItemOrders.{item_order_is}
use Rattle.sc_page.proofs.Settling.{none_waits, settled_already}
use Rattle.sc_page.proofs.first.FirstItems.settle.Goals as goal

pub returns : goal.returns
returns c items apart f =
    let sorted : IsSorted (λ (x : Arc Feature Global) (y : Arc Feature Global). item_order c.sort-sort.result.now (arc_value x) (arc_value y)) c.sort_by.new.self.items =
    c.in_ok-sort_by.ensures.sorted _ (ranks_by (item_order_is c.sort-sort.result.now).total arc_value) (always_returns_same _ _ _ (λ a r f' k. search rules)) in
    sorted_in c.args.search.now c.args.self.now _ _ c.sort_by.new.self.items items apart f c.in_ok-append.ensures.items c.in_ok-sort_by.ensures.permutation
    (subst (λ (s : List Key). IsSorted (λ (x : Arc Feature Global) (y : Arc Feature Global). item_order s (arc_value x) (arc_value y)) c.sort_by.new.self.items) c.sort-sort.ensures sorted)
    refl c.truncate.ensures.items c.in_ok-append.ensures.other_items

pub returns-then-is_empty : goal.returns-then-is_empty
returns-then-is_empty c items apart f =
    let empty : length c.args.self.now.waiting.items ≡ 0 = grind (arith, nat_tests, c.if-is_empty.ensures) in
    settled_already c.args.search.now c.args.self.now items apart f (none_waits c.args.self.now.waiting.items empty)
