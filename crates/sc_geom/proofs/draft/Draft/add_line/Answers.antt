use Rattle.std.proofs.Common.{[], ◌∷◌, ◌++◌, ◌+◌, refl, ap, ◌∙◌}
use Rattle.sc_geom.proofs.Drafts.{line_added}
use Rattle.sc_geom.proofs.draft.Draft.add_line.Goals as goal

pub returns : goal.returns
returns c = λ s places is path long.
    line_added c.args.self.now _ c.args.path s places is path long refl
    (c.in_ok-push.ensures.items ∙ ap (λ line. c.args.self.now.lines.items ++ line ∷ []) c.of.ensures) refl
    (c.in_ok-count.ensures ∙ ap (λ more. c.args.self.now.count + more) (c.len.ensures places path)) refl refl
