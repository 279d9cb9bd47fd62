use Rattle.std.proofs.Common.{◌≡◌, ◌∷◌, length, chars}
use denote.Text.{Utf8}
use denote.Shadow.{shadow}
use Rattle.sc_eval.specs.declared.like.Element.TheVariants as parts
use Rattle.sc_eval.specs.Like.{elements, fits}
use Rattle.sc_eval.proofs.like.find_piece.Given as goal

abbrev pub invariant-loop-more : goal.invariant-loop-more
invariant-loop-more l =
    shadow (Utf8 l.text)
    × (fits (parts.Run ∷ elements (chars l.pattern)) (chars l.text) ≡ fits (parts.Run ∷ elements (chars l.fn.pattern)) (chars l.fn.text))

abbrev pub decreases-loop-more : goal.decreases-loop-more
decreases-loop-more l = length l.text
