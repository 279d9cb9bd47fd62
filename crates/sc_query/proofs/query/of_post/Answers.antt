use Rattle.std.proofs.Common.{ap}
use Rattle.sc_query.specs.Query.{object_judged}
use Rattle.sc_query.specs.Reading.{stops}
use Rattle.sc_query.proofs.Chain.{body_read}
use Rattle.sc_query.proofs.query.of_post.Goals as goal

pub returns-in-Some : goal.returns-in-Some
returns-in-Some c = body_read c.args.body.now c.query_of.result (ap object_judged c.in-Some.ensures) c.query_of.ensures

pub returns-in-None : goal.returns-in-None
returns-in-None c = λ _. stops _ (ap object_judged c.in-None.ensures)
