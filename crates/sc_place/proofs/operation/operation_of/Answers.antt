use Rattle.std.proofs.Common.{◌∙◌, sym}
use Rattle.sc_place.proofs.Names.{in_vain}
use Rattle.sc_place.proofs.operation.operation_of.Goals as goal

pub returns-in-None : goal.returns-in-None
returns-in-None c =
    in_vain c.args.target.now c.args.name.now _ c.in-Some.resource c.in-Some-method_named.method (rw c.in-Some.is at c.in_ok-resource.ensures)
    c.in-Some-method_named.ensures (sym c.operation_at.ensures ∙ c.in-None.is) c.methods_at-allow.ensures
