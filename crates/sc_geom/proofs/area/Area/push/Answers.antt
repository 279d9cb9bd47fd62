use Rattle.std.proofs.Common.{[], ◌∷◌, ◌++◌, ◌+◌, ◌||◌, refl, ap, ◌∙◌}
use Rattle.sc_geom.proofs.Paths.{area_pushed}
use Rattle.sc_geom.proofs.area.Area.push.Goals as goal

pub returns : goal.returns
returns c = λ rings places is path.
    area_pushed c.args.self.now _ c.args.ring rings places is path
    (c.in_ok-push.ensures.items ∙ ap (λ ring. c.args.self.now.rings.items ++ ring ∷ []) c.of.ensures)
    (c.in_ok-count.ensures ∙ ap (λ more. c.args.self.now.count + more) (c.len.ensures places path))
    refl (ap (λ open'. c.args.self.now.has_open_ring || open') (c.is_open-is_open.ensures places path))
