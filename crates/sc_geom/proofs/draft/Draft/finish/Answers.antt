use Rattle.std.proofs.Common.{◌≤◌, sym, arith}
use Rattle.sc_geom.proofs.Finished.{completed, shapes_in, count_drafted}
use Rattle.sc_geom.proofs.draft.Draft.finish.Goals as goal

pub returns-then-count-from : goal.returns-then-count-from
returns-then-count-from c = λ s is.
    let some : 1 ≤ c.args.self.count = omega arith in
    (shapes_in c.args.self, completed c.args.self s is c.if-outside.false c.if-has_open_ring.false some, sym (count_drafted c.args.self s is), omega arith)

pub of-requires-4 : goal.of-requires-4
of-requires-4 c =
    let some : 1 ≤ c.args.self.count = omega arith in
    rw (c.of.ensures, c.of-2.ensures, c.of-3.ensures) (completed c.args.self c.requires.0 c.requires.1 c.if-outside.false c.if-has_open_ring.false some).sound

pub returns : goal.returns
returns c = λ s is.
    let some : 1 ≤ c.args.self.count = omega arith in
    let counted = count_drafted c.args.self s is in
    rw (c.of-4.ensures, c.of.ensures, c.of-2.ensures, c.of-3.ensures) (completed c.args.self s is c.if-outside.false c.if-has_open_ring.false some, omega arith)
