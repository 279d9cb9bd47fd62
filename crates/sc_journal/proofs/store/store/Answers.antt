use Rattle.std.proofs.Common.{length, arith}
use Rattle.sc_journal.specs.Disk.{TornFrom, Within}
use Rattle.sc_journal.proofs.Tears.{torn_now, started, goes_on, synced}
use Rattle.sc_journal.proofs.store.store.Goals as goal

pub returns-in_err-write_at-clause-any_moment : goal.returns-in_err-write_at-clause-any_moment
returns-in_err-write_at-clause-any_moment g c = λ tells.
    let d = c.args.disk.now in
    let P = TornFrom c.args.at (length c.args.bytes.now) (g.D.Disk.may_leave d) in
    let told = c.write_at.ensures.told tells in
    let here : Within (g.D.Disk.left_since d (g.D.Disk.clock d)) P = λ f left. torn_now _ _ (g.D.Disk.may_leave d) f ((g.met.D.Disk.since_now d told).none_new f left) in
    goes_on g.D.Disk.clock g.D.Disk.left_since d d c.write_at.new.self P _ (omega arith) (started g.D.Disk.clock g.D.Disk.left_since d P here) (c.write_at.ensures.since tells) (c.write_at.ensures.crash tells)

pub returns-clause-any_moment : goal.returns-clause-any_moment
returns-clause-any_moment g c = λ tells.
    let d = c.args.disk.now in
    let P = TornFrom c.args.at (length c.args.bytes.now) (g.D.Disk.may_leave d) in
    let mid = c.sync.ensures.told tells in
    let told = c.write_at.ensures.told mid in
    let here : Within (g.D.Disk.left_since d (g.D.Disk.clock d)) P = λ f left. torn_now _ _ (g.D.Disk.may_leave d) f ((g.met.D.Disk.since_now d told).none_new f left) in
    let first = goes_on g.D.Disk.clock g.D.Disk.left_since d d c.write_at.new.self P _ (omega arith) (started g.D.Disk.clock g.D.Disk.left_since d P here) (c.write_at.ensures.since mid) (c.write_at.ensures.crash mid) in
    goes_on g.D.Disk.clock g.D.Disk.left_since d c.write_at.new.self c.sync.new.self P _ c.write_at.ensures.clock first (c.sync.ensures.since tells)
    (synced c.sync.result P _ _ _ _ (c.sync.ensures.stored tells) (c.sync.ensures.fault tells) (c.sync.ensures.reads tells) (g.met.D.Disk.reads_now c.write_at.new.self mid) (c.write_at.ensures.crash mid))
