use Rattle.sc_weave.proofs.Stopping.{front_written}
use Rattle.sc_weave.proofs.Telling.{tells_all, tells_front}
use Rattle.sc_weave.proofs.writing.write_out.Goals as goal

pub returns-in-Err-clause-err : goal.returns-in-Err-clause-err
returns-in-Err-clause-err g c = λ start lines h.
    front_written lines start _ _ _ h (tells_front _ _ _ _ h.tells _ (rw (c.as_bytes.ensures.value, c.as_str.ensures.value) at c.in-Err.ensures.err))

pub returns-clause-ok : goal.returns-clause-ok
returns-clause-ok g c = λ start lines h. record {
  told = record {
    outcomes = h.outcomes;
    woven = h.woven;
    tells = rw c.clear.ensures.bytes (tells_all _ _ _ _ h.tells _ (rw (c.as_bytes.ensures.value, c.as_str.ensures.value) at c.in-Ok.ensures.ok));
  };
  none = c.clear.ensures.bytes;
}
