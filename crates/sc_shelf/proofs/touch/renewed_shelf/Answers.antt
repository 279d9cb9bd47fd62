use Rattle.std.proofs.Common.{ap, ◌∙◌, subst, ◌≡◌}
use Rattle.std.specs.Prelude.{IfOk}
use Rattle.std.proofs.lemmas.Result.{IfOk-weaker}
use Rattle.sc_part.specs.Scan.{shared}
use Rattle.sc_history.specs.Touch.{stamped, widened}
use Rattle.sc_shelf.specs.Shelf.{part_of}
use Rattle.sc_shelf.proofs.Touching.{shared_some, widened_by}
use Rattle.sc_shelf.proofs.touch.renewed_shelf.Goals as goal

pub returns-else-is_empty : goal.returns-else-is_empty
returns-else-is_empty c =
    let come = shared c.args.come.now in
    let old = part_of c.args.old.now in
    let same = c.in_ok-version.ensures in
    subst (λ v. IfOk c.with_hull.result (λ shelf. part_of shelf ≡ widened c.args.revision come (stamped c.args.revision v.items old))) same
    (IfOk-weaker c.with_hull.result _ (λ shelf. part_of shelf ≡ widened c.args.revision come (stamped c.args.revision c.in_ok-version.version.items old))
    (λ shelf e. widened_by c.args.revision come old (part_of shelf) c.in_ok-version.version c.hull_of_items-hull.result (shared_some c.args.come.now c.if-is_empty.ensures) c.hull_of_items-hull.ensures.value (ap (λ v. v.name) same ∙ c.requires.name) (ap (λ v. v.stamp) same ∙ c.requires.stamp) e)
    c.with_hull.ensures)
