use Rattle.std.proofs.Common.{ℕ, ◌+◌, ◌++◌, length, sym, ap, ◌∙◌, length-append}
use Rattle.sc_geom.specs.Shapes.{joined, rings_of}
use Rattle.sc_geom.proofs.draft.Draft.count.Goals as goal

pub returns : goal.returns
returns c = λ s is.
    is.count_is ∙ sym (length-append (s.points ++ joined s.lines) (joined (rings_of s)) ∙ ap (λ (n : ℕ). n + length (joined (rings_of s))) (length-append s.points (joined s.lines)))
