use Rattle.std.proofs.Common.{subst, sym}
use Rattle.sc_shelf.specs.Kept.{AreParts}
use Rattle.sc_shelf.proofs.Owning.{changed_parts_own}
use Rattle.sc_shelf.proofs.parts.Parts.with_changes.Goals as goal

pub invariant_of-result : goal.invariant_of-result
invariant_of-result c =
    let are = rw c.as_slice.ensures.value at c.in_ok-parts.ensures in
    subst (λ v. AreParts v.items) (sym c.in_ok-new.ensures.ok) (changed_parts_own c.args.revision c.args.changes.now c.args.self.now c.in_ok-parts.parts.items c.as_slice.ensures.kept c.requires are)
