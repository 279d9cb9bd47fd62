use Rattle.std.proofs.Common.{◌∙◌, sym, ap}
use Rattle.sc_outcome.specs.declared.outcome.Outcome.TheVariants as gives
use Rattle.sc_machine.proofs.Seen.{each_ok}
use Rattle.sc_machine.proofs.Looking.{snapshot_there, snapshot_taken}
use Rattle.sc_machine.proofs.looks.take_snapshot.Goals as goal

pub returns-then-contains_key-clause-told : goal.returns-then-contains_key-clause-told
returns-then-contains_key-clause-told c =
    each_ok _ _ (λ outcome told hulls. snapshot_there c.args.catalogue.now hulls c.args.name outcome c.args.snapshots.now (sym c.contains_key.ensures ∙ c.if-contains_key.true) told) c.name_taken.result c.name_taken.ensures

pub returns-clause-told : goal.returns-clause-told
returns-clause-told c hulls =
    snapshot_taken c.args.catalogue.now hulls c.args.name (gives.Revision c.revision-revision.result) c.args.snapshots.now c.insert.new.self c.in_ok-snapshot.snapshot
    (sym c.contains_key.ensures ∙ c.if-contains_key.false) c.in_ok-insert.ensures.updates.0 c.in_ok-snapshot.ensures.taken (ap gives.Revision c.revision-revision.ensures.revision)
