use Rattle.std.proofs.Common.{◌≡◌, ◌<◌, ◌^◌, [], ℕ, length, subst, arith}
use Rattle.sc_outside.specs.Causes.{Rose}
use Rattle.sc_catalog.specs.Entries.{entry_of}
use Rattle.sc_kept.specs.Record.{payload_of}
use Rattle.sc_kept.proofs.Publishing.{count_fewer, kept_run, keeping_after, room_more, stored_after, stored_run, waiting, whole_has}
use Rattle.sc_kept.proofs.kept.Kept.publish.Goals.{in-Ok, in-Err}
use Rattle.sc_kept.proofs.kept.Kept.publish.Goals as goal

pub returns-in_err-published-clause-any_moment : goal.returns-in_err-published-clause-any_moment
returns-in_err-published-clause-any_moment g c = λ t.
    let T = g.D.Disk.tells in
    let M = g.D.Disk.may_leave in
    let run = kept_run T M g.D.Disk.clock g.D.Disk.left_since g.met.D.Disk.since_now c.self.inside.catalogue.entries c.self.inside.journal c.self.inside.backlog.items c.self.invariant.stored_to t in
    rw (← c.self.view_is, c.in_err-published.ensures.same) run

pub store_backlog-requires : goal.store_backlog-requires
store_backlog-requires g c =
    subst (λ (k : ℕ). k < 2 ^ 63) (room_more c.self.inside.journal.place c.self.inside.size c.take.new.size c.self.inside.backlog.items c.take.new.backlog.items (payload_of (entry_of c.args.by c.args.load))
    c.self.invariant.size_is c.in_ok-published.ensures.waits c.in_ok-published.ensures.size) c.in_ok-published.ensures.small

pub invariant_of-self-2 : goal.invariant_of-self-2
invariant_of-self-2 g c =
    let T = g.D.Disk.tells in
    let M = g.D.Disk.may_leave in
    let e = c.in_ok-published.ensures in
    let more = c.take.new.backlog.items in
    let s = waiting T M c.self.inside.catalogue.entries c.take.new.catalogue.entries (entry_of c.args.by c.args.load) c.self.inside.journal c.self.inside.backlog.items more e.ok.entries_are e.sealable e.ok.takes e.waits c.self.invariant.stored_to in
    let size_is = room_more c.self.inside.journal.place c.self.inside.size c.take.new.size c.self.inside.backlog.items more (payload_of (entry_of c.args.by c.args.load)) c.self.invariant.size_is e.waits e.size in
    keeping_after T M g.D.Disk.faults c.take.new.catalogue.entries c.self.inside.journal c.store_backlog.new.journal more c.store_backlog.new.backlog.items c.take.new.size c.store_backlog.result s
    (c.store_backlog.ensures.stored s.stored s.behind) size_is e.small c.store_backlog.ensures.size c.store_backlog.ensures.cause c.store_backlog.ensures.all

pub returns-clause-any_moment : goal.returns-clause-any_moment
returns-clause-any_moment g c = λ t.
    let T = g.D.Disk.tells in
    let M = g.D.Disk.may_leave in
    let e = c.in_ok-published.ensures in
    let more = c.take.new.backlog.items in
    let s = waiting T M c.self.inside.catalogue.entries c.take.new.catalogue.entries (entry_of c.args.by c.args.load) c.self.inside.journal c.self.inside.backlog.items more e.ok.entries_are e.sealable e.ok.takes e.waits c.self.invariant.stored_to in
    let run = stored_run T M g.D.Disk.clock g.D.Disk.left_since c.take.new.catalogue.entries c.self.inside.journal c.store_backlog.new.journal more s (c.store_backlog.ensures.any_moment s.stored s.behind t) in
    rw (← c.self.view_is) run

pub returns-clause-crash : goal.returns-clause-crash
returns-clause-crash g c =
    let T = g.D.Disk.tells in
    let M = g.D.Disk.may_leave in
    let e = c.in_ok-published.ensures in
    let more = c.take.new.backlog.items in
    let left = c.store_backlog.new.backlog.items in
    let s = waiting T M c.self.inside.catalogue.entries c.take.new.catalogue.entries (entry_of c.args.by c.args.load) c.self.inside.journal c.self.inside.backlog.items more e.ok.entries_are e.sealable e.ok.takes e.waits c.self.invariant.stored_to in
    let after = stored_after T M c.take.new.catalogue.entries c.self.inside.journal c.store_backlog.new.journal more left s (c.store_backlog.ensures.stored s.stored s.behind) in
    elim c.match-store_backlog.branch [
      | in-Ok w ↦
          let none : left ≡ [] = rw w.in-Ok.is at c.store_backlog.ensures.all in
          rw w.result-is (λ t file l. whole_has T M c.take.new.catalogue.entries c.store_backlog.new.journal left none after t file l)
      | in-Err w ↦ rw w.result-is tt
    ]

pub returns-clause-fault : goal.returns-clause-fault
returns-clause-fault g c =
    let T = g.D.Disk.tells in
    let M = g.D.Disk.may_leave in
    let e = c.in_ok-published.ensures in
    let more = c.take.new.backlog.items in
    let left = c.store_backlog.new.backlog.items in
    let s = waiting T M c.self.inside.catalogue.entries c.take.new.catalogue.entries (entry_of c.args.by c.args.load) c.self.inside.journal c.self.inside.backlog.items more e.ok.entries_are e.sealable e.ok.takes e.waits c.self.invariant.stored_to in
    let after = stored_after T M c.take.new.catalogue.entries c.self.inside.journal c.store_backlog.new.journal more left s (c.store_backlog.ensures.stored s.stored s.behind) in
    elim c.match-store_backlog.branch [
      | in-Ok w ↦ rw w.result-is tt
      | in-Err w ↦
          let some : 0 < length left = rw w.in-Err.is at c.store_backlog.ensures.left in
          let rose : Rose (g.D.Disk.faults c.self.inside.journal.disk) (g.D.Disk.faults c.store_backlog.new.journal.disk) = rw w.in-Err.is at c.store_backlog.ensures.cause.failed in
          let fewer = count_fewer T M c.take.new.catalogue.entries c.store_backlog.new.journal left after some in
          rw (w.result-is, ← c.self.view_is)
          (record { is = e.ok; stored_is = w.count.ensures; fewer = omega (arith, fewer, w.count.ensures, e.ok.revision_is); rose = rose })
    ]
