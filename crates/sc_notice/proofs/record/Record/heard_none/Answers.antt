use Rattle.std.proofs.Common.{◌++◌, ◌∷◌, [], refl, arith, rules}
use Rattle.atomic_table.specs.Table.{keeps}
use Rattle.sc_notice.specs.declared.notice.Call.TheVariants.{HeardNone}
use Rattle.sc_notice.proofs.record.Record.heard_none.Goals as goal

pub load-requires : goal.load-requires
load-requires c =
    let words = c.args.self.now.sized in
    let me = c.args.pen.now.me in
    (search rules, omega arith, λ s holds wide at fits. (me.0 ++ HeardNone ∷ [], keeps, tt, tt, refl))
