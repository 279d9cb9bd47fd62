use Rattle.std.proofs.Common.{◌≡◌, ◌∷◌, [], ◌-◌, ap, ◌∙◌, rules}
use Rattle.sc_part.specs.Scan.{after, scan_of, shared}
use Rattle.sc_history.specs.declared.addition.Addition.{Addition}
use Rattle.sc_bounds.specs.Extent.{Extent}
use Rattle.std.specs.Prelude.{List}
use Rattle.sc_shelf.proofs.Hulling.{scan_of_come}
use Rattle.sc_shelf.proofs.Touching.{made_none, made_some, same_part, shared_none, shared_some}
use Rattle.sc_shelf.proofs.touch.make.Goals as goal

pub returns-then-is_empty : goal.returns-then-is_empty
returns-then-is_empty c = made_none c.args.revision c.args.name.now (shared c.args.come.now) (shared_none c.args.come.now c.if-is_empty.ensures)

pub returns : goal.returns
returns c =
    let come = shared c.args.come.now in
    let v = c.in_ok-of.ensures ∙ c.in_ok-version.ensures.value in
    let kept : c.saturating_sub.result ≡ c.args.revision - 1 = search rules in
    let added : Extent → List Addition = λ h. record { revision = c.args.revision; hull = h } ∷ [] in
    made_some c.args.revision c.args.name.now come c.in_ok-of-2.field-0 (shared_some c.args.come.now c.if-is_empty.ensures)
    (c.in_ok-of-2.ensures
    ∙ same_part _ _ (ap (λ w. w.name) v ∙ ap (λ n. n.name) c.empty-none.ensures ∙ c.in_ok-try_clone.ensures) (ap (λ w. w.stamp) v)
    (ap (λ w. w.items) v ∙ ap (λ n. scan_of (after [] come n.items)) c.empty-none.ensures ∙ scan_of_come come) c.hull_of_items-hull.ensures.value kept
    (c.in_ok-additions_with.ensures ∙ ap added c.hull_of_items-hull.ensures.value))
