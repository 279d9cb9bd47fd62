use Rattle.std.proofs.Common.{rules, ◌≡◌}
use Rattle.std.proofs.lemmas.Result.{err_from_is_err_and}
use Rattle.sc_load.proofs.Patching.{faulty_patch, renaming_patch}
use Rattle.sc_load.proofs.patch.patch_item.Goals as goal

pub returns-in_err-patched : goal.returns-in_err-patched
returns-in_err-patched c =
    let p = err_from_is_err_and c.from_residual-in_err-patched.result c.from_residual-in_err-patched.ensures.1 in
    rw (p.1, p.2) (faulty_patch c.args.item.now c.args.patch.now c.in_ok-tree.tree c.in_ok-merged.merged c.collection.result.now c.in_err-patched.field-0.0
    c.in_ok-tree.ensures.tree c.in_ok-merged.ensures.patched c.collection.ensures c.in_err-patched.ensures)

pub returns-then-ne : goal.returns-then-ne
returns-then-ne c =
    let other : c.in_ok-patched.patched.id ≡ c.args.item.now.id → ⊥ = search rules in
    renaming_patch c.args.item.now c.args.patch.now c.in_ok-tree.tree c.in_ok-merged.merged c.collection.result.now c.in_ok-patched.patched
    c.in_ok-tree.ensures.tree c.in_ok-merged.ensures.patched c.collection.ensures c.in_ok-patched.ensures other
