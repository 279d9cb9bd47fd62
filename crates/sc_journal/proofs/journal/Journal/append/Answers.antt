use Rattle.std.proofs.Common.{◌≤◌, arith}
use Rattle.sc_journal.specs.Journal.{WithOrWithout}
use Rattle.sc_journal.proofs.Tears.{on_err, on_err_to, on_ok_to, both}
use Rattle.sc_journal.proofs.journal.Journal.append.Goals as goal

pub returns-in_err-close_gate-clause-kept : goal.returns-in_err-close_gate-clause-kept
returns-in_err-close_gate-clause-kept g c = on_err c.from_residual.result (λ records h. c.close_gate.ensures.holds records c.args.sealed.now h)

pub returns-in_err-close_gate-clause-any_moment : goal.returns-in_err-close_gate-clause-any_moment
returns-in_err-close_gate-clause-any_moment g c = λ records h t. c.close_gate.ensures.any_moment records c.args.sealed.now h t

pub returns-in_err-write_behind-clause-kept : goal.returns-in_err-write_behind-clause-kept
returns-in_err-write_behind-clause-kept g c = on_err c.from_residual-in_err-write_behind.result (λ records h. c.write_behind.ensures.holds records (c.close_gate.ensures.holds records c.args.sealed.now h))

pub returns-in_err-write_behind-clause-any_moment : goal.returns-in_err-write_behind-clause-any_moment
returns-in_err-write_behind-clause-any_moment g c = λ records h t.
    both g.D.Disk.clock g.D.Disk.left_since c.args.self.now.disk c.close_gate.new.self.disk c.write_behind.new.self.disk (WithOrWithout records c.args.sealed.now) c.close_gate.ensures.clock
    (c.close_gate.ensures.any_moment records c.args.sealed.now h (c.write_behind.ensures.told t)) (c.write_behind.ensures.any_moment records (c.close_gate.ensures.holds records c.args.sealed.now h) t)

pub returns-clause-stored : goal.returns-clause-stored
returns-clause-stored g c = on_ok_to c.open_gate.result (λ f records h. f records (c.write_behind.ensures.holds records (c.close_gate.ensures.holds records c.args.sealed.now h))) c.open_gate.ensures.stored

pub returns-clause-kept : goal.returns-clause-kept
returns-clause-kept g c = on_err_to c.open_gate.result (λ f records h. f records (c.write_behind.ensures.holds records (c.close_gate.ensures.holds records c.args.sealed.now h))) c.open_gate.ensures.kept

pub returns-clause-any_moment : goal.returns-clause-any_moment
returns-clause-any_moment g c = λ records h t.
    let P = WithOrWithout records c.args.sealed.now in
    let clock = g.D.Disk.clock in
    let since = g.D.Disk.left_since in
    let closed = c.close_gate.ensures.holds records c.args.sealed.now h in
    let written = c.write_behind.ensures.holds records closed in
    let mid = c.open_gate.ensures.told t in
    let first = both clock since c.args.self.now.disk c.close_gate.new.self.disk c.write_behind.new.self.disk P c.close_gate.ensures.clock
    (c.close_gate.ensures.any_moment records c.args.sealed.now h (c.write_behind.ensures.told mid)) (c.write_behind.ensures.any_moment records closed mid) in
    let later : clock c.args.self.now.disk ≤ clock c.write_behind.new.self.disk = omega (arith, c.close_gate.ensures.clock, c.write_behind.ensures.clock) in
    both clock since c.args.self.now.disk c.write_behind.new.self.disk c.open_gate.new.self.disk P later first (c.open_gate.ensures.any_moment records written t)
