use Rattle.std.proofs.Common.{◌≡◌, length, chars}
use denote.Text.{Utf8}
use denote.Shadow.{shadow}
use Rattle.std.specs.List.{list_any}
use Rattle.sc_eval.specs.Like.{elements, is_run}
use Rattle.sc_eval.proofs.like.has_run.Given as goal

abbrev pub invariant-loop-element : goal.invariant-loop-element
invariant-loop-element l = shadow (Utf8 l.pattern) × (list_any is_run (elements (chars l.pattern)) ≡ list_any is_run (elements (chars l.fn.pattern)))

abbrev pub decreases-loop-element : goal.decreases-loop-element
decreases-loop-element l = length l.pattern
