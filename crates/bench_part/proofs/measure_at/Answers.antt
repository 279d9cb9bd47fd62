use Rattle.std.proofs.Common.{subst, sym}
use Rattle.sc_item.specs.Names.{AreApart}
use Rattle.sc_part.specs.Scan.{Fits}
use Rattle.bench_part.proofs.Lists.{front_has, parts_are, rest_has}
use Rattle.bench_part.proofs.measure_at.Goals as goal

pub measure-requires-clause-old : goal.measure-requires-clause-old
measure-requires-clause-old c = front_has (Fits c.args.name) c.min-count.result c.args.all.now c.requires.fits

pub measure-requires-clause-come : goal.measure-requires-clause-come
measure-requires-clause-come c = rest_has (Fits c.args.name) c.min-count.result c.args.all.now c.requires.fits

pub measure-requires-clause-apart : goal.measure-requires-clause-apart
measure-requires-clause-apart c = subst AreApart (sym (parts_are c.min-count.result c.args.all.now)) c.requires.apart
