use Rattle.std.proofs.Common.{codes}
use Rattle.std.proofs.lemmas.Result.{on_ok_weaker}
use Rattle.sc_cqlwrite.specs.Scalars.{scalar_tokens}
use Rattle.sc_cqlwrite.proofs.Spellings.{call_pushed}
use Rattle.sc_cqlwrite.proofs.Phrases.{folded_scalar}
use Rattle.sc_cqlwrite.proofs.scalars.+push_scalar.Goals as goal

pub returns-in_ok-push_scalar-in-Folded : goal.returns-in_ok-push_scalar-in-Folded
returns-in_ok-push_scalar-in-Folded t c =
    let within = rw c.get.ensures at c.in_ok-push_scalar-in-Folded.ensures in
    rw (c.in-Folded.is, folded_scalar)
    (on_ok_weaker c.closing.result
    (call_pushed (codes "CASEI") (scalar_tokens c.in-Folded.inner) c.args.out.now c.function.new.self c.opening.new.self c.push_scalar.new.out c.closing.new.self
    c.in_ok-function-in-Folded.ensures c.in_ok-opening-in-Folded.ensures within)
    c.closing.ensures)
