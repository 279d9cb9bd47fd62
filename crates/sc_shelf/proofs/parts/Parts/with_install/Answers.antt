use Rattle.std.proofs.Common.{subst, sym}
use Rattle.sc_shelf.specs.Kept.{AreParts}
use Rattle.sc_shelf.proofs.Installing.{installed_parts_own}
use Rattle.sc_shelf.proofs.parts.Parts.with_install.Goals as goal

pub invariant_of-result : goal.invariant_of-result
invariant_of-result c =
    let t = c.args.tight.now in
    let are = rw c.as_slice-2.ensures.value at c.in_ok-parts.ensures in
    subst (λ v. AreParts v.items) (sym c.in_ok-new.ensures.ok) (installed_parts_own t.name t.stamp t.bounds c.args.self.now c.in_ok-parts.parts.items c.as_slice-2.ensures.kept are)
