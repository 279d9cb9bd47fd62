use Rattle.std.proofs.Common.{inl, refl, sym, ◌∙◌}
use Rattle.stacd.proofs.Piped.{input_failed, output_failed}
use Rattle.stacd.proofs.Kept.{keep_listener_failed}
use Rattle.stacd.proofs.Served.{listener_failed}
use Rattle.stacd.proofs.program.run.Goals as goal

pub returns-in-Ok-clause-ran : goal.returns-in-Ok-clause-ran
returns-in-Ok-clause-ran g c = rw c.in-Pipe.is (inl (c.pipe-end.result, c.status_of_end.ensures, rw c.in-Ok.ensures at c.pipe-end.ensures, (refl, refl), c.tell_connection.ensures))

pub returns-in-Ok-clause-read : goal.returns-in-Ok-clause-read
returns-in-Ok-clause-read g c e = input_failed _ c.pipe-end.result _ _ _ _ c.pipe-end.ensures (sym c.status_of_end.ensures ∙ e)

pub returns-in-Ok-clause-write : goal.returns-in-Ok-clause-write
returns-in-Ok-clause-write g c e = output_failed _ c.pipe-end.result _ _ _ _ c.pipe-end.ensures (sym c.status_of_end.ensures ∙ e)

pub returns-in-Serve-clause-listen : goal.returns-in-Serve-clause-listen
returns-in-Serve-clause-listen g c e = listener_failed _ _ _ _ _ _ _ _ c.serve-end.result _ _ _ _ _ _ _ c.serve-end.ensures.ran (sym c.status_of_end-in-Serve.ensures ∙ e)

pub returns-in-Keep-clause-listen : goal.returns-in-Keep-clause-listen
returns-in-Keep-clause-listen g c e = keep_listener_failed _ _ _ _ _ _ _ _ _ _ _ _ _ _ _ _ _ _ _ _ c.keep-end.result c.keep-end.ensures.ran (sym c.status_of_end-in-Keep.ensures ∙ e)
