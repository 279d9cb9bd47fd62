use Rattle.std.proofs.Common.{◌+◌, ◌^◌, ◌<◌, List, ℕ, length, refl, subst, arith}
use Rattle.sc_journal.specs.Disk.{Written}
use Rattle.sc_journal.proofs.Steps.{torn_behind, stored_behind, run_behind}
use Rattle.sc_journal.proofs.journal.Journal.write_behind.Goals as goal

pub returns-in_err-store-clause-holds : goal.returns-in_err-store-clause-holds
returns-in_err-store-clause-holds g c = λ records h.
    torn_behind g.D.Disk.tells g.D.Disk.may_leave c.args.self.now _ records c.args.sealed.now (length c.bytes.result.now) c.requires.closed refl
    (record { place = refl; count = refl; told = c.store.ensures.told }) c.store.ensures.crash h

pub returns-in_err-store-clause-any_moment : goal.returns-in_err-store-clause-any_moment
returns-in_err-store-clause-any_moment g c = λ records h t.
    run_behind g.D.Disk.tells g.D.Disk.may_leave c.args.self.now (record c.args.self.now { disk = c.store.new.disk }) records c.args.sealed.now g.D.Disk.clock g.D.Disk.left_since (length c.bytes.result.now) c.requires.closed c.store.ensures.told c.store.ensures.any_moment h t

pub returns-clause-holds : goal.returns-clause-holds
returns-clause-holds g c = λ records h.
    let fits : length c.args.sealed.now < 2 ^ 64 = omega (arith, c.bytes.ensures.fits) in
    let was = g.D.Disk.reads c.args.self.now.disk in
    let is = g.D.Disk.reads c.store.new.disk in
    stored_behind g.D.Disk.tells g.D.Disk.may_leave c.args.self.now _ records c.args.sealed.now was is fits c.requires.closed refl
    (record { place = refl; count = refl; told = c.store.ensures.told }) (g.met.D.Disk.reads_now c.args.self.now.disk)
    (λ t. subst (λ (bytes : List ℕ). Written (c.args.self.now.place + 1) bytes was is) c.bytes.ensures.bytes (c.in_ok-store.ensures.written t)) c.in_ok-store.ensures.stored h

pub returns-clause-any_moment : goal.returns-clause-any_moment
returns-clause-any_moment g c = λ records h t.
    run_behind g.D.Disk.tells g.D.Disk.may_leave c.args.self.now (record c.args.self.now { disk = c.store.new.disk }) records c.args.sealed.now g.D.Disk.clock g.D.Disk.left_since (length c.bytes.result.now) c.requires.closed c.store.ensures.told c.store.ensures.any_moment h t
