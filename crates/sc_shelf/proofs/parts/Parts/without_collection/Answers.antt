use Rattle.std.proofs.Common.{subst, sym}
use Rattle.sc_shelf.specs.Changed.{AreWithout}
use Rattle.sc_shelf.specs.Kept.{AreParts}
use Rattle.sc_shelf.proofs.Installing.{are_without, without_own}
use Rattle.sc_shelf.proofs.parts.Parts.without_collection.Goals as goal

pub invariant_of-result : goal.invariant_of-result
invariant_of-result c =
    let is = rw c.as_slice.ensures.value at c.in_ok-parts.ensures in
    subst (λ v. AreParts v.items) (sym c.in_ok-new.ensures.ok) (without_own c.args.collection.now c.args.self.now c.in_ok-parts.parts.items c.as_slice.ensures.kept is)

pub returns : goal.returns
returns c =
    let is = rw c.as_slice.ensures.value at c.in_ok-parts.ensures in
    subst (λ v. AreWithout c.args.collection.now c.args.self.now v.items) (sym c.in_ok-new.ensures.ok) (are_without c.args.collection.now c.args.self.now c.in_ok-parts.parts.items c.as_slice.ensures.kept.rise is)
