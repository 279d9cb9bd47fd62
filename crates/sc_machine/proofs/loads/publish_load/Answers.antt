use Rattle.std.proofs.Common.{ap, ◌∙◌}
use Rattle.sc_catalog.specs.Holdings.{Holdings}
use Rattle.sc_outcome.specs.declared.outcome.Outcome.TheVariants as gives
use Rattle.sc_outcome.specs.Refused.{refused_of}
use Rattle.sc_machine.specs.Inside.{state_of}
use Rattle.sc_machine.specs.Loads as loads
use Rattle.sc_machine.proofs.Seen.{kept_longer, published_seen}
use Rattle.sc_machine.proofs.loads.publish_load.Goals as goal

pub returns-in-Ok-clause-told : goal.returns-in-Ok-clause-told
returns-in-Ok-clause-told c snaps hulls =
    let is = c.in-Ok.ensures.ok in
    loads.PublishesLoad.taken (published_seen c.args.by c.args.load c.args.catalogue.now c.publish.new.self c.in-Ok.published is snaps hulls) (ap gives.Revision is.revision_is)

pub returns-in-Ok-clause-kept : goal.returns-in-Ok-clause-kept
returns-in-Ok-clause-kept c snaps hulls kept =
    kept_longer c.args.catalogue.now c.publish.new.self c.args.by c.args.load c.in-Ok.published c.in-Ok.ensures.ok c.in-Ok.ensures.hulls snaps hulls kept

pub returns-in_ok-load_refusal-in-Err-clause-told : goal.returns-in_ok-load_refusal-in-Err-clause-told
returns-in_ok-load_refusal-in-Err-clause-told c snaps hulls =
    loads.PublishesLoad.refused c.in-Err.fault c.in-Err.ensures.fault c.in_ok-load_refusal-in-Err.ensures.known (ap (λ (h : Holdings). state_of h snaps hulls) c.in-Err.ensures.err)
    (c.refused_of.ensures ∙ ap refused_of c.in_ok-load_refusal-in-Err.ensures.told)
