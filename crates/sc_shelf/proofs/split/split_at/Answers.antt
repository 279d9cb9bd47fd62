use Rattle.std.proofs.Common.{rules, subst, sym}
use Rattle.std.proofs.lemmas.Fn.{always_returns_same}
use Rattle.std.proofs.lemmas.List.{take_rest}
use Rattle.std.proofs.lemmas.List.Sorted.{searchable_from_sorted}
use Rattle.std.specs.declared.cmp.Ordering.TheVariants.{Equal}
use Rattle.std.proofs.Common.{◌≡◌, ◌+◌}
use Rattle.sc_history.specs.Names.{name_order}
use Rattle.sc_history.specs.Part.{Part}
use Rattle.sc_history.proofs.Names.{name_total}
use Rattle.sc_shelf.proofs.Splitting.{names_sorted, split_found, split_missing}
use Rattle.sc_shelf.proofs.split.split_at.Goals as goal

pub returns-in-Ok : goal.returns-in-Ok
returns-in-Ok c =
    let name = c.args.name.now in
    let parts = c.args.parts.now in
    let x = c.index-parts-at.result in
    let tied = c.in-Ok.ensures.position (λ y. name_order y.name name) (always_returns_same _ _ _ (λ a r f' k. search rules)) in
    rw (take_rest parts (c.in-Ok.at + 1)) (split_found name parts c.in-Ok.at x c.requires c.in-Ok.ensures.bound c.index-parts-at.is (subst (λ p. name_order p.name name ≡ Equal) (sym c.index-parts-at.is) (tied x)))

pub returns-in-Err : goal.returns-in-Err
returns-in-Err c =
    let name = c.args.name.now in
    let parts = c.args.parts.now in
    let point = c.in-Err.ensures.position (λ y. name_order y.name name) (always_returns_same _ _ _ (λ a r f' k. search rules)) (searchable_from_sorted name_total (λ (p : Part). p.name) parts name (names_sorted parts c.requires)) in
    rw (take_rest parts c.in-Err.at) (split_missing name parts c.in-Err.at c.in-Err.ensures.bound point)
