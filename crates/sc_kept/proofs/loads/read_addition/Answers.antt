use Rattle.std.proofs.Common.{◌≢◌, rules}
use Rattle.sc_load.specs.declared.fault.PrepareFault.TheVariants as prepare
use Rattle.sc_kept.specs.Record.{IsTextOf}
use Rattle.sc_kept.proofs.Telling.{not_added}
use Rattle.sc_kept.proofs.loads.read_addition.Goals as goal

pub returns-in-Err : goal.returns-in-Err
returns-in-Err c =
    let text : IsTextOf c.text-item.result c.in-Some.tree = rw c.in-Some.is at c.in_ok-tree.ensures in
    let not : c.in-Err.field-0 ≢ prepare.OutOfMemory = search rules in
    not_added c.args.fields.now c.text-item.result c.in-Some.tree c.in-Err.field-0 c.text-item.is text c.in-Err.ensures.answer not
