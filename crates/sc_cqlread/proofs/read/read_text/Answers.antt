use Rattle.std.proofs.Common.{ℕ, Option, sym, ap, subst, ◌∙◌}
use Rattle.sc_expr.specs.declared.fault.CqlFault.{CqlFault}
use Rattle.sc_cqlread.specs.Faults.{IsFault}
use Rattle.sc_cqlread.specs.Judged.{first_fault}
use Rattle.sc_cqlread.proofs.Answered.{broken_off, judged_is}
use Rattle.sc_cqlread.specs.Tokens.{readable}
use Rattle.sc_cqlread.proofs.Total.{one_expr}
use Rattle.sc_cqlread.proofs.read.read_text.Goals as goal

pub returns-in-Broken : goal.returns-in-Broken
returns-in-Broken c =
    let e = rw (c.readable_len-len.ensures.len, c.in-Broken.is) at c.in_ok-end.ensures in
    subst (λ (x : CqlFault). IsFault c.args.text.now x)
    (sym (c.broken.ensures ∙ ap (λ (b : Option ℕ). first_fault b c.in-Broken.place) (c.bad.ensures e.0 e.1)))
    (broken_off c.args.text.now c.in-Broken.place e.0 e.2)

pub judged-requires : goal.judged-requires
judged-requires c =
    let e = rw (c.readable_len-len.ensures.len, c.in-Whole.is) at c.in_ok-end.ensures in
    let one = one_expr (readable c.args.text.now) e.2.0 e.0 e.2.3 in
    (e.0, e.1, one.0, one.1)

pub returns : goal.returns
returns c =
    let e = rw (c.readable_len-len.ensures.len, c.in-Whole.is) at c.in_ok-end.ensures in
    judged_is c.args.text.now e.0 c.judged.result e.2 (c.judged.ensures e.0 e.1)
