use Rattle.sc_shelf.proofs.Installing.{are_installed}
use Rattle.sc_shelf.proofs.install.installed_parts.Goals as goal

pub returns : goal.returns
returns c =
    let t = c.args.tight.now in
    let split = c.split_at-split.ensures in
    let new = are_installed c.name.result.now t.stamp t.bounds c.args.old.now _ _ _ c.requires split in
    rw (c.in_ok-push_all-2.ensures, c.in_ok-push_installed.ensures, c.in_ok-push_all.ensures, c.in_ok-new.ensures.items) (rw c.name.ensures at new)
