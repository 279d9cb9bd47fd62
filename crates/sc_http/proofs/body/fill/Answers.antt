use Rattle.sc_http.proofs.Steps.{counts_takes, counts_more}
use Rattle.sc_http.proofs.body.fill.Goals as goal

pub returns-in_err-extend_from_slice-in-Ok-clause-counted : goal.returns-in_err-extend_from_slice-in-Ok-clause-counted
returns-in_err-extend_from_slice-in-Ok-clause-counted g c =
    counts_more _ _ _ _ _ _ _ (counts_takes _ _ _ _ _ _ c.filling.invariant.takes) c.in-Ok.ensures.bytes.0 c.in-Ok.ensures.bound.0
