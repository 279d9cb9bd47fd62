use Rattle.std.proofs.Common.{◌≡◌, ◌≤◌, length, drop, chars}
use denote.Text.{Utf8}
use denote.Shadow.{shadow}
use Rattle.sc_eval.proofs.like.behind.Given as goal

abbrev pub invariant-loop-more : goal.invariant-loop-more
invariant-loop-more l =
    shadow (Utf8 l.text) × shadow (Utf8 l.passed)
    × (drop (length (chars l.passed)) (chars l.text) ≡ drop (length (chars l.fn.passed)) (chars l.fn.text))
    × (length l.text ≤ length l.fn.text)

abbrev pub decreases-loop-more : goal.decreases-loop-more
decreases-loop-more l = length l.passed
