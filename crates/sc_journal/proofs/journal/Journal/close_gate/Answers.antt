use Rattle.std.proofs.Common.{refl}
use Rattle.sc_journal.proofs.Steps.{torn_gate, closed_gate, run_gate}
use Rattle.sc_journal.proofs.journal.Journal.close_gate.Goals as goal

pub returns-in_err-store-in-GateWritten-clause-holds : goal.returns-in_err-store-in-GateWritten-clause-holds
returns-in_err-store-in-GateWritten-clause-holds g c = λ records next h.
    torn_gate g.D.Disk.tells g.D.Disk.may_leave c.args.self.now _ records next c.in-GateWritten.is c.in-GateWritten.is
    (record { place = refl; count = refl; told = c.store.ensures.told }) c.store.ensures.crash h

pub returns-in_err-store-in-GateWritten-clause-any_moment : goal.returns-in_err-store-in-GateWritten-clause-any_moment
returns-in_err-store-in-GateWritten-clause-any_moment g c = λ records next h t.
    run_gate g.D.Disk.tells g.D.Disk.may_leave c.args.self.now (record c.args.self.now { disk = c.store.new.disk }) records next g.D.Disk.clock g.D.Disk.left_since c.in-GateWritten.is c.store.ensures.told c.store.ensures.any_moment h t

pub returns-in_ok-store-in-GateWritten-clause-holds : goal.returns-in_ok-store-in-GateWritten-clause-holds
returns-in_ok-store-in-GateWritten-clause-holds g c = λ records next h.
    closed_gate g.D.Disk.tells g.D.Disk.may_leave c.args.self.now _ records next (g.D.Disk.reads c.args.self.now.disk) (g.D.Disk.reads c.store.new.disk) c.in-GateWritten.is refl
    (record { place = refl; count = refl; told = c.store.ensures.told }) (g.met.D.Disk.reads_now c.args.self.now.disk) c.in_ok-store-in-GateWritten.ensures.written c.in_ok-store-in-GateWritten.ensures.stored h

pub returns-in_ok-store-in-GateWritten-clause-any_moment : goal.returns-in_ok-store-in-GateWritten-clause-any_moment
returns-in_ok-store-in-GateWritten-clause-any_moment g c = λ records next h t.
    run_gate g.D.Disk.tells g.D.Disk.may_leave c.args.self.now (record c.args.self.now { disk = c.store.new.disk }) records next g.D.Disk.clock g.D.Disk.left_since c.in-GateWritten.is c.store.ensures.told c.store.ensures.any_moment h t
