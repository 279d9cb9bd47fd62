use Rattle.sc_history.proofs.Covering.{snapshot_apart, snapshot_covers, snapshot_items}
use Rattle.sc_history.proofs.laws.snapshots_cover.Goals as goal

pub returns : goal.returns
returns c = record { covers = snapshot_covers; apart = snapshot_apart; items = snapshot_items }
