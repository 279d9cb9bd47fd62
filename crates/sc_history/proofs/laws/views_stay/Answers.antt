use Rattle.sc_history.proofs.Taking.{snapshot_stays, ticket_stays, tight_stays}
use Rattle.sc_history.proofs.laws.views_stay.Goals as goal

pub returns : goal.returns
returns c = record { snapshot = snapshot_stays; ticket = ticket_stays; tight = tight_stays }
