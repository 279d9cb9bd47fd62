use Rattle.std.proofs.Common.{arith}
use Rattle.sc_outside.proofs.Written.{written_more, written_front, written_all, front_of_all, on_err}
use Rattle.sc_outside.proofs.LineFacts.{no_bytes}
use Rattle.sc_outside.proofs.writing.write_all.Goals as goal

pub returns-in_err-count-clause-err : goal.returns-in_err-count-clause-err
returns-in_err-count-clause-err g c =
    on_err _ (written_front _ _ _ _ _ c.writing.invariant.written c.in_err-count.ensures.bytes)

pub writing-preserved : goal.writing-preserved
writing-preserved g c = record {
  written = written_more _ _ _ _ _ c.in_ok-count.count c.writing.invariant.written c.in_ok-count.ensures.bytes;
  later = omega (arith, c.in_ok-count.ensures.cause.later, c.writing.invariant.later);
}

pub returns-clause-err : goal.returns-clause-err
returns-clause-err g c =
    on_err _ (front_of_all _ _ _ (written_all _ _ _ _ _ c.writing.invariant.written (no_bytes _ c.writing-test.ensures) c.flush.ensures.bytes))
