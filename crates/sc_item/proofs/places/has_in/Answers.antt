use Rattle.std.proofs.Common.{ap, ◌∙◌}
use Rattle.std.specs.Option.{is_some}
use Rattle.sc_item.specs.Trees.{is_named}
use Rattle.sc_item.proofs.Placing.{position_any}
use Rattle.sc_item.proofs.places.has_in.Goals as goal

pub returns : goal.returns
returns c = c.is_some.ensures ∙ ap is_some c.position_in.ensures ∙ position_any (is_named c.args.name.now) c.args.members.now
