use Rattle.std.proofs.Common.{subst}
use Rattle.std.specs.List.{All}
use Rattle.std.proofs.lemmas.List.Elements.{All-head}
use Rattle.sc_expr.specs.Form.{IsFormed}
use Rattle.sc_cqlvalue.proofs.values.Values.finish.Goals as goal

pub returns-in-Some-clause-formed : goal.returns-in-Some-clause-formed
returns-in-Some-clause-formed c = All-head IsFormed c.in-Some.expr c.pop.new.self (subst (All IsFormed) c.in-Some.ensures c.self.invariant.exprs)
