use Rattle.std.proofs.Common.{inl, inr, [], ◌∷◌, ◌++◌, ◌||◌, ◌≡◌, ◌≤◌, length, refl, ap, subst, ◌∙◌, arith}
use Rattle.std.proofs.lemmas.Bool.Decides.{nat_tests}
use Rattle.sc_geom.specs.declared.path.Path.{Path}
use Rattle.sc_geom.specs.Point.{IsInWorld}
use Rattle.sc_geom.proofs.Paths.{path_pushed, is_none_from}
use Rattle.sc_geom.proofs.path.Path.push.Goals as goal
use Rattle.sc_geom.proofs.path.Path.push.Goals.{then-is_empty, else-is_empty}

pub returns : goal.returns
returns c = λ places is.
    let world = subst IsInWorld c.settled.ensures.value (c.settled.ensures.in_world c.requires) in
    let none = is_none_from c.args.place c.is_none.result c.is_none.ensures in
    elim c.if-is_empty.branch [
      | then-is_empty w ↦
          let empty : length c.args.self.now.points.items ≡ 0 = grind (arith, nat_tests, w.if-is_empty.ensures) in
          path_pushed c.args.self.now _ places c.args.place is
          (c.in_ok-push.ensures.items ∙ ap (λ (s : Path). s.points.items ++ c.settled.result ∷ []) w.self-is ∙ ap (λ p. c.args.self.now.points.items ++ p ∷ []) c.settled.ensures.value)
          (inl (empty, ap (λ (s : Path). s.first) w.self-is)) refl
          (ap (λ (s : Path). s.outside || c.is_none.result) w.self-is ∙ ap (λ b. c.args.self.now.outside || b) none) world
      | else-is_empty w ↦
          let filled : 1 ≤ length c.args.self.now.points.items = grind (arith, nat_tests, w.if-is_empty.ensures) in
          path_pushed c.args.self.now _ places c.args.place is
          (c.in_ok-push.ensures.items ∙ ap (λ (s : Path). s.points.items ++ c.settled.result ∷ []) w.self-is ∙ ap (λ p. c.args.self.now.points.items ++ p ∷ []) c.settled.ensures.value)
          (inr (filled, ap (λ (s : Path). s.first) w.self-is)) refl
          (ap (λ (s : Path). s.outside || c.is_none.result) w.self-is ∙ ap (λ b. c.args.self.now.outside || b) none) world
    ]
