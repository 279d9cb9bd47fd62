use Rattle.std.proofs.Common.{rules, arith, ◌≡◌, ◌<◌, ◌∙◌, ap, ℕ, List, sym, subst, get_or}
use Rattle.matchit.specs.Level.{IsText}
use Rattle.matchit.specs.Seek.{first}
use Rattle.sc_place.proofs.Splits.{endpoint_found, endpoint_missed, text_all}
use Rattle.sc_place.proofs.endpoint.Routes.endpoint_of.Goals as goal

pub returns-in-Ok : goal.returns-in-Ok
returns-in-Ok c =
    let text : IsText c.args.path.now = text_all c.args.path.now (λ i. let low : get_or c.args.path.now i 0 < 256 = omega (arith, c.type_inv.path i) in low) in
    endpoint_found c.self.inside.router c.args.path.now _ c.self.invariant text c.in-Ok.ensures.found

pub returns-in-Err : goal.returns-in-Err
returns-in-Err c = endpoint_missed c.self.inside.router c.args.path.now c.self.invariant c.in-Err.ensures.missing
