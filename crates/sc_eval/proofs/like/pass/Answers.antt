use Rattle.std.proofs.Common.{arith}
use Rattle.sc_eval.proofs.Places.{some_passed}
use Rattle.sc_eval.proofs.like.pass.Goals as goal

pub returns-in-Some-first_char : goal.returns-in-Some-first_char
returns-in-Some-first_char c = (
  some_passed _ _ _ _ _ _ _ _ c.in-Some.ensures.0 c.in-Some-first_char.ensures.0 c.behind.ensures.left c.requires.passed,
  omega (arith, c.behind.ensures.shorter, c.in-Some.ensures.1),
)
