use Rattle.sc_history.proofs.Taking.{snapshot_taken, ticket_taken, ticket_tight}
use Rattle.sc_history.proofs.laws.views_of_what_stands.Goals as goal

pub returns : goal.returns
returns c = record { snapshot = snapshot_taken; ticket = ticket_taken; tight = ticket_tight }
