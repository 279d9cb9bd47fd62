use Rattle.std.proofs.Common.{◌++◌, ◌+◌, refl, ap, ◌∙◌}
use Rattle.sc_geom.proofs.Drafts.{points_added}
use Rattle.sc_geom.proofs.draft.Draft.add_points.Goals as goal

pub returns : goal.returns
returns c = λ s places is path.
    points_added c.args.self.now _ c.args.path s places is path
    (c.in_ok-extend_from_slice.ensures.items ∙ ap (λ points. c.args.self.now.points.items ++ points) c.as_slice.ensures.value) refl refl
    (c.in_ok-count.ensures ∙ ap (λ more. c.args.self.now.count + more) (c.len.ensures places path)) refl refl
