use Rattle.std.proofs.Common.{◌++◌, [], true, take, arith}
use Rattle.std.proofs.lemmas.List.{length-append, length-take}
use Rattle.sc_weave.proofs.Stopping.{not_read_fault}
use Rattle.sc_weave.proofs.Taking.{size_taken, taken_nothing}
use Rattle.sc_weave.proofs.Running.{consumes_nothing, consumes_both, ran_to_fault, ran_to_limit, ran_to_stop, wants_first}
use Rattle.sc_weave.proofs.run.weave.Goals as goal

pub returns-in-Err-clause-ran : goal.returns-in-Err-clause-ran
returns-in-Err-clause-ran g c = wants_first _ _ _

pub reading-init : goal.reading-init
reading-init g c = record {
  taken = ([], consumes_nothing _, rw c.new-pending.ensures.items (taken_nothing _ _ (c.in-Ok.ensures _)));
  source_later = omega arith;
  sink_later = omega arith;
}

pub returns-in-Ok-eq0-clause-read : goal.returns-in-Ok-eq0-clause-read
returns-in-Ok-eq0-clause-read g c = λ e.
    let t = c.reading.invariant.taken in
    absurd (c.finish.ensures.read (g.K.Sink.written c.args.sink.now) t.0 (rw c.as_slice.ensures.value t.2) e)

pub reading-smaller : goal.reading-smaller
reading-smaller g c =
    let t = c.reading.invariant.taken in
    let n = c.in-Ok-weave_bytes.ensures.stops (g.K.Sink.written c.args.sink.now) t.0 t.2 in
    let chunk = take c.in-Ok-read.count c.read.new.buf in
    omega (arith, size_taken _ _ _ _ _ t.2, size_taken _ _ _ _ _ n, length-append t.0 chunk, length-take c.in-Ok-read.count c.read.new.buf, c.in-Ok-read.ensures.bound, c.reading-test.true, c.in-Ok-read.count-test, c.len.ensures)

pub reading-preserved : goal.reading-preserved
reading-preserved g c =
    let t = c.reading.invariant.taken in
    record {
      taken = (t.0 ++ take c.in-Ok-read.count c.read.new.buf, consumes_both _ _ _ _ _ t.1 c.in-Ok-read.ensures.bytes.0, c.in-Ok-weave_bytes.ensures.stops (g.K.Sink.written c.args.sink.now) t.0 t.2);
      source_later = omega (arith, c.reading.invariant.source_later, c.read.ensures.cause.later);
      sink_later = omega (arith, c.reading.invariant.sink_later, c.weave_bytes.ensures.later);
    }

pub returns-in-Err-weave_bytes-clause-ran : goal.returns-in-Err-weave_bytes-clause-ran
returns-in-Err-weave_bytes-clause-ran g c =
    let t = c.reading.invariant.taken in
    ran_to_stop _ _ _ t.0 t.1 _ _ _ c.in-Err-weave_bytes.end (take c.in-Ok-read.count c.read.new.buf) c.in-Ok-read.ensures.bytes.0 (c.in-Err-weave_bytes.ensures.stops (g.K.Sink.written c.args.sink.now) t.0 t.2)

pub returns-in-Err-weave_bytes-clause-read : goal.returns-in-Err-weave_bytes-clause-read
returns-in-Err-weave_bytes-clause-read g c = λ e.
    let t = c.reading.invariant.taken in
    absurd (not_read_fault c.in-Err-weave_bytes.end _ _ _ (c.in-Err-weave_bytes.ensures.stops (g.K.Sink.written c.args.sink.now) t.0 t.2 true) e)

pub returns-in-Err-read-clause-ran : goal.returns-in-Err-read-clause-ran
returns-in-Err-read-clause-ran g c =
    let t = c.reading.invariant.taken in
    ran_to_fault _ _ t.0 t.1 _ _ _ _ t.2 _ _ c.in-Err-read.ensures.bytes c.in-Err-read.ensures.end (omega (arith, c.reading-test.true, c.len.ensures))

pub returns-clause-ran : goal.returns-clause-ran
returns-clause-ran g c =
    let t = c.reading.invariant.taken in
    ran_to_limit _ _ t.0 t.1 _ _ _ _ t.2 _ (omega (arith, c.reading-test.false, c.len.ensures))
