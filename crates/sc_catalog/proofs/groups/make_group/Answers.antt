use Rattle.std.proofs.Common.{sym, ◌∙◌, to_z-of_z}
use Rattle.sc_catalog.proofs.Steps.{some_put, there_too}
use Rattle.sc_catalog.proofs.groups.make_group.Goals as goal

pub returns-else-not-contains_key-clause-some : goal.returns-else-not-contains_key-clause-some
returns-else-not-contains_key-clause-some c = λ k. there_too c.args.groups.now c.args.key k (rw (to_z-of_z c.ranges.key) at (sym c.contains_key.ensures ∙ c.if-not-contains_key.false))

pub returns-in_ok-insert-clause-some : goal.returns-in_ok-insert-clause-some
returns-in_ok-insert-clause-some c = λ k. some_put _ _ _ _ (rw (to_z-of_z c.ranges.key) at c.in_ok-insert.ensures.updates.0 k)
