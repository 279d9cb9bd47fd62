use Rattle.std.proofs.Common.{subst, sym}
use Rattle.sc_catalog.specs.Entries.{IsLookOf, IsTightOf}
use Rattle.sc_catalog.proofs.Hulls.{hull_of_look}
use Rattle.sc_tighten.proofs.part.tighten_part.Goals as goal

pub put_tight-requires : goal.put_tight-requires
put_tight-requires g c =
    let seen = c.take_look.new.pass.seen in
    let look = subst (IsLookOf seen c.args.name.now) c.in-Ok-Some.field-0-is c.in-Ok-Some.ensures.ok in
    subst (IsTightOf seen) (sym c.tighten.ensures) (hull_of_look seen c.args.name.now c.in-Ok-Some.ticket look)
