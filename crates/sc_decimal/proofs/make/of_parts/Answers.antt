use Rattle.std.proofs.Common.{Some, sym, subst, arith}
use Rattle.std.proofs.lemmas.Int.{ints}
use Rattle.sc_decimal.specs.Number.{Number, IsKept}
use Rattle.sc_decimal.proofs.Keeping.{zero_kept, made_ok, made_err, made_wide}
use Rattle.sc_decimal.proofs.make.of_parts.Goals as goal

pub returns-then-m-eq0 : goal.returns-then-m-eq0
returns-then-m-eq0 c =
    subst (λ (d : Number). IsKept (record { neg = c.args.neg; m = c.args.m; e = c.args.e }) (Some d)) (sym c.new.ensures)
    (zero_kept (record { neg = c.args.neg; m = c.args.m; e = c.args.e }) c.if-m-eq0.true)

pub returns-then-digits-ge10000000000000000000000000000000000 : goal.returns-then-digits-ge10000000000000000000000000000000000
returns-then-digits-ge10000000000000000000000000000000000 c =
    made_wide c.args.neg c.args.m c.trimmed-digits.result.1 c.trimmed-digits.result.0 c.args.e (omega arith) c.trimmed-digits.ensures.same c.trimmed-digits.ensures.last

pub returns-in-Ok : goal.returns-in-Ok
returns-in-Ok c =
    made_ok c.args.neg c.args.m c.trimmed-digits.result.1 c.trimmed-digits.result.0 c.args.e _ c.with_exponent.result c.with_exponent.ensures (omega (arith, ints)) c.trimmed-digits.ensures.same c.trimmed-digits.ensures.last c.in-Ok.dec c.in-Ok.is

pub returns-in-Err : goal.returns-in-Err
returns-in-Err c =
    made_err c.args.neg c.args.m c.trimmed-digits.result.1 c.trimmed-digits.result.0 c.args.e _ c.with_exponent.result c.with_exponent.ensures (omega (arith, ints)) c.trimmed-digits.ensures.same c.trimmed-digits.ensures.last c.in-Err.field-0 c.in-Err.is
