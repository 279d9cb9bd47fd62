use Rattle.std.proofs.Common.{◌≡◌, ◌++◌, map, length, chars, string_bytes}
use denote.Text.{Utf8}
use denote.Shadow.{shadow}
use Rattle.sc_eval.specs.declared.like.Element.TheVariants as parts
use Rattle.sc_eval.specs.Like.{elements}
use Rattle.sc_eval.proofs.like.whole_head.Given as goal

abbrev pub invariant-loop-c : goal.invariant-loop-c
invariant-loop-c l =
    shadow (Utf8 l.rest)
    × (elements (chars l.fn.pattern) ≡ map parts.Same (chars (string_bytes l.head)) ++ elements (chars l.rest))

abbrev pub decreases-loop-c : goal.decreases-loop-c
decreases-loop-c l = length l.rest
