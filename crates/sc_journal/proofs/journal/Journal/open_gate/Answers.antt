use Rattle.std.proofs.Common.{◌^◌, ◌<◌, length, ap, refl, arith}
use Rattle.sc_journal.proofs.Steps.{torn_gate, opened_gate, run_gate}
use Rattle.sc_journal.proofs.Tears.{on_err}
use Rattle.sc_journal.proofs.journal.Journal.open_gate.Goals as goal

pub returns-in_err-store-clause-kept : goal.returns-in_err-store-clause-kept
returns-in_err-store-clause-kept g c = on_err c.from_residual.result (λ records h.
    torn_gate g.D.Disk.tells g.D.Disk.may_leave c.args.self.now _ records c.args.sealed.now c.requires.written c.requires.written
    (record { place = refl; count = refl; told = c.store.ensures.told }) c.store.ensures.crash h)

pub returns-in_err-store-clause-any_moment : goal.returns-in_err-store-clause-any_moment
returns-in_err-store-clause-any_moment g c = λ records h t.
    run_gate g.D.Disk.tells g.D.Disk.may_leave c.args.self.now (record c.args.self.now { disk = c.store.new.disk }) records c.args.sealed.now g.D.Disk.clock g.D.Disk.left_since c.requires.written c.store.ensures.told c.store.ensures.any_moment h t

pub returns-clause-stored : goal.returns-clause-stored
returns-clause-stored g c = λ records h next.
    let fits : length c.args.sealed.now < 2 ^ 64 = omega (arith, c.requires.place) in
    opened_gate g.D.Disk.tells g.D.Disk.may_leave c.args.self.now _ records c.args.sealed.now (g.D.Disk.reads c.args.self.now.disk) (g.D.Disk.reads c.store.new.disk) next fits c.requires.written refl
    (omega (arith, ap length c.payload.ensures)) refl c.store.ensures.told (g.met.D.Disk.reads_now c.args.self.now.disk) c.in_ok-store.ensures.written c.in_ok-store.ensures.stored h

pub returns-clause-any_moment : goal.returns-clause-any_moment
returns-clause-any_moment g c = λ records h t.
    run_gate g.D.Disk.tells g.D.Disk.may_leave c.args.self.now (record c.args.self.now { disk = c.store.new.disk }) records c.args.sealed.now g.D.Disk.clock g.D.Disk.left_since c.requires.written c.store.ensures.told c.store.ensures.any_moment h t
