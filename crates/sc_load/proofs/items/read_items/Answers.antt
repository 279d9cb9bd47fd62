use Rattle.std.proofs.Common.{◌≡◌, ◌≤◌, length, map, arith, sym, subst}
use Rattle.std.specs.Arc.{arc_value}
use Rattle.std.specs.Vec.Iter.{into_iter_items}
use Rattle.std.proofs.lemmas.List.{length-map}
use Rattle.std.proofs.lemmas.Result.{err_from_is_err_and}
use Rattle.sc_load.proofs.Reading.{AreSoFar, more, stopped, pushed}
use Rattle.sc_load.proofs.items.read_items.Goals as goal

pub returns-in_err-item : goal.returns-in_err-item
returns-in_err-item c =
    let p = err_from_is_err_and c.from_residual-in_err-item.result c.from_residual-in_err-item.ensures.1 in
    let few : length c.args.trees.items ≤ 10000 = omega (arith, c.if-count-gt-MOST_ITEMS.false, c.len-count.ensures) in
    let count : c.len.result ≡ length (map arc_value c.loop-tree.items.items) = omega (arith, c.len.ensures, length-map c.loop-tree.items.items arc_value) in
    rw (p.1, p.2) (stopped c.args.collection.now c.args.trees.items c.loop-tree.yielded (into_iter_items c.loop-tree.tree-iterator) _ c.in-Some.tree
    (map arc_value c.loop-tree.items.items) c.len.result c.in_err-item.field-0.0 c.loop-tree.invariant c.in-Some.ensures.steps.0 few count c.in_err-item.ensures)

pub loop-tree-preserved : goal.loop-tree-preserved
loop-tree-preserved c =
    subst (AreSoFar c.args.collection.now c.args.trees.items _ _)
    (sym (pushed arc_value c.loop-tree.items.items c.push.new.self.items c.in_ok-new.field-0 c.in_ok-item.item c.in_ok-push.ensures.items c.in_ok-new.ensures.ok))
    (more c.args.collection.now c.args.trees.items c.loop-tree.yielded (into_iter_items c.loop-tree.tree-iterator) _ c.in-Some.tree
    (map arc_value c.loop-tree.items.items) c.in_ok-item.item c.loop-tree.invariant c.in-Some.ensures.steps.0 c.in_ok-item.ensures)
