use Rattle.std.proofs.Common.{ap, ◌∙◌, refl}
use Rattle.sc_outcome.specs.Refused.{refused_of}
use Rattle.sc_machine.specs.Loads as loads
use Rattle.sc_machine.proofs.Seen.{each_ok}
use Rattle.sc_machine.proofs.loads.publish.Goals as goal

pub returns-in-Ok-clause-told : goal.returns-in-Ok-clause-told
returns-in-Ok-clause-told c =
    each_ok _ _ (λ outcome is snaps hulls. loads.Publishes.read c.in-Ok.load c.in-Ok.ensures.answer (is snaps hulls)) c.publish_load.result c.publish_load.ensures.told

pub returns-in_ok-prepare_refusal-in-Err-clause-told : goal.returns-in_ok-prepare_refusal-in-Err-clause-told
returns-in_ok-prepare_refusal-in-Err-clause-told c snaps hulls =
    loads.Publishes.unread c.in-Err.fault c.in-Err.ensures.answer c.in_ok-prepare_refusal-in-Err.ensures.known refl (c.refused_of.ensures ∙ ap refused_of c.in_ok-prepare_refusal-in-Err.ensures.told)
