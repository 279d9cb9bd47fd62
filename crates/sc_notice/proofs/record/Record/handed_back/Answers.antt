use Rattle.std.proofs.Common.{◌++◌, ◌∷◌, [], ap, arith, rules}
use mathlib.Core.Option.{some-injective}
use Rattle.atomic_table.specs.Table.{keeps}
use Rattle.sc_notice.specs.declared.notice.Call.TheVariants.{HandedBack}
use Rattle.sc_notice.proofs.record.Record.handed_back.Goals as goal

pub compare_exchange_with-requires : goal.compare_exchange_with-requires
compare_exchange_with-requires c =
    let words = c.args.self.now.sized in
    let me = c.args.pen.now.me in
    (search rules, omega arith, λ s holds wide at fits. (me.0 ++ HandedBack c.args.notice.now.value ∷ [], keeps, tt, tt, λ said is. ap (λ x. (me.0 ++ HandedBack x.value ∷ [], me.1)) (some-injective _ _ is)))
