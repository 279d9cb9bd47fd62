use Rattle.std.proofs.Common.{length, ap, arith}
use Rattle.sc_journal.proofs.Openings.{sync_done, then_looked, then_gate, then_observed, stored_keeps}
use Rattle.sc_journal.proofs.opening.find.Goals as goal

pub returns-in_err-store-clause-any_moment : goal.returns-in_err-store-clause-any_moment
returns-in_err-store-clause-any_moment g c = λ t.
    let old = c.args.disk.now in
    let first = sync_done g.D.Disk.tells g.D.Disk.reads g.D.Disk.may_leave g.D.Disk.clock g.D.Disk.left_since g.met.D.Disk.since_now g.met.D.Disk.reads_now old c.sync.new.self c.sync.ensures.told c.sync.ensures.reads c.in_ok-sync.ensures.stored c.sync.ensures.since c.sync.ensures.clock in
    let second = then_looked g.D.Disk.tells g.D.Disk.reads g.D.Disk.may_leave g.D.Disk.clock g.D.Disk.left_since g.met.D.Disk.reads_now old c.sync.new.self c.len.new.self first c.len.ensures.told c.len.ensures.reads c.len.ensures.crash c.len.ensures.since c.len.ensures.clock in
    then_gate g.D.Disk.tells g.D.Disk.reads g.D.Disk.may_leave g.D.Disk.clock g.D.Disk.left_since g.met.D.Disk.reads_now old c.len.new.self c.store.new.disk second
    (λ m. omega (arith, c.if-size-le1.true, c.in_ok-size.ensures.length m, ap length (c.sync.ensures.reads (c.len.ensures.told m)))) c.store.ensures.told c.store.ensures.any_moment t

pub returns-then-size-le1-clause-any_moment : goal.returns-then-size-le1-clause-any_moment
returns-then-size-le1-clause-any_moment g c = λ t.
    let old = c.args.disk.now in
    let first = sync_done g.D.Disk.tells g.D.Disk.reads g.D.Disk.may_leave g.D.Disk.clock g.D.Disk.left_since g.met.D.Disk.since_now g.met.D.Disk.reads_now old c.sync.new.self c.sync.ensures.told c.sync.ensures.reads c.in_ok-sync.ensures.stored c.sync.ensures.since c.sync.ensures.clock in
    let second = then_looked g.D.Disk.tells g.D.Disk.reads g.D.Disk.may_leave g.D.Disk.clock g.D.Disk.left_since g.met.D.Disk.reads_now old c.sync.new.self c.len.new.self first c.len.ensures.told c.len.ensures.reads c.len.ensures.crash c.len.ensures.since c.len.ensures.clock in
    then_gate g.D.Disk.tells g.D.Disk.reads g.D.Disk.may_leave g.D.Disk.clock g.D.Disk.left_since g.met.D.Disk.reads_now old c.len.new.self c.store.new.disk second
    (λ m. omega (arith, c.if-size-le1.true, c.in_ok-size.ensures.length m, ap length (c.sync.ensures.reads (c.len.ensures.told m)))) c.store.ensures.told c.store.ensures.any_moment t

pub returns-clause-any_moment : goal.returns-clause-any_moment
returns-clause-any_moment g c = λ t.
    let old = c.args.disk.now in
    let first = sync_done g.D.Disk.tells g.D.Disk.reads g.D.Disk.may_leave g.D.Disk.clock g.D.Disk.left_since g.met.D.Disk.since_now g.met.D.Disk.reads_now old c.sync.new.self c.sync.ensures.told c.sync.ensures.reads c.in_ok-sync.ensures.stored c.sync.ensures.since c.sync.ensures.clock in
    let second = then_looked g.D.Disk.tells g.D.Disk.reads g.D.Disk.may_leave g.D.Disk.clock g.D.Disk.left_since g.met.D.Disk.reads_now old c.sync.new.self c.len.new.self first c.len.ensures.told c.len.ensures.reads c.len.ensures.crash c.len.ensures.since c.len.ensures.clock in
    let third = then_observed g.D.Disk.tells g.D.Disk.reads g.D.Disk.may_leave g.D.Disk.clock g.D.Disk.left_since g.met.D.Disk.reads_now old c.len.new.self c.read_records-found.new.disk second c.read_records-found.ensures.observed in
    let fourth = then_looked g.D.Disk.tells g.D.Disk.reads g.D.Disk.may_leave g.D.Disk.clock g.D.Disk.left_since g.met.D.Disk.reads_now old c.read_records-found.new.disk c.end_reading.new.self third c.end_reading.ensures.told c.end_reading.ensures.reads c.end_reading.ensures.crash c.end_reading.ensures.since c.end_reading.ensures.clock in
    stored_keeps g.D.Disk.tells g.D.Disk.reads g.D.Disk.may_leave g.D.Disk.clock g.D.Disk.left_since old c.end_reading.new.self fourth t
