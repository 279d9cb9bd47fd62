use Rattle.std.proofs.Common.{subst, sym}
use Rattle.sc_part.specs.Scan.{IsScanned}
use Rattle.sc_page.specs.Search.{shared}
use Rattle.sc_walk.proofs.Scanned.{latest_first}
use Rattle.sc_walk.proofs.walking.take_part.Goals as goal

pub add_latest_first-requires : goal.add_latest_first-requires
add_latest_first-requires g c = latest_first (shared c.scan-items.result.now) (subst IsScanned (sym c.scan-items.ensures.items) c.scan-items.ensures.kept.ordered)
