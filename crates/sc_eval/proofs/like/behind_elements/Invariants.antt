use Rattle.std.proofs.Common.{◌≡◌, ◌+◌, length, chars}
use denote.Text.{Utf8}
use denote.Shadow.{shadow}
use Rattle.sc_eval.specs.Like.{elements}
use Rattle.sc_eval.proofs.like.behind_elements.Given as goal

abbrev pub invariant-loop-more : goal.invariant-loop-more
invariant-loop-more l =
    shadow (Utf8 l.pattern) × shadow (Utf8 l.text)
    × (length (chars l.text) + length (elements (chars l.fn.pattern)) ≡ length (chars l.fn.text) + length (elements (chars l.pattern)))

abbrev pub decreases-loop-more : goal.decreases-loop-more
decreases-loop-more l = length l.pattern
