use Rattle.std.proofs.Common.{◌≡◌, ap, sym, ◌∙◌}
use Rattle.std.specs.Option.{option_map}
use Rattle.sc_history.specs.Installs.{bounds_after}
use Rattle.sc_shelf.proofs.Installing.{none_installed, same_installed}
use Rattle.sc_shelf.proofs.Splitting.{found_split}
use Rattle.sc_shelf.proofs.install.leaves_bounds.Goals as goal

pub returns-in-None : goal.returns-in-None
returns-in-None c = λ _.
    let t = c.args.tight.now in
    let found = rw c.name.ensures at (found_split c.name.result.now c.args.old.now _ _ _ c.split_at.ensures) in
    none_installed t.name t.stamp t.bounds c.args.old.now c.requires (found ∙ ap (option_map (λ part. part.now)) c.in-None.is)

pub returns-in-Some : goal.returns-in-Some
returns-in-Some c = λ same.
    let t = c.args.tight.now in
    let part = c.in-Some.part.now in
    let found = rw c.name.ensures at (found_split c.name.result.now c.args.old.now _ _ _ c.split_at.ensures) in
    let left : c.bounds_with-bounds.result ≡ bounds_after t.stamp t.bounds part = c.bounds_with-bounds.ensures ∙ (λ i. bounds_after (c.stamp.ensures i) (c.bounds.ensures i) (c.shelf.ensures i)) in
    same_installed t.name t.stamp t.bounds c.args.old.now part c.requires (found ∙ ap (option_map (λ part. part.now)) c.in-Some.is) (sym left ∙ c.is_same.ensures same ∙ c.bounds-in-Some.ensures)
