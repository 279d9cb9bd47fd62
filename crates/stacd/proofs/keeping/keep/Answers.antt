use Rattle.std.proofs.Common.{rules, refl}
use Rattle.stacd.proofs.keeping.keep.Goals as goal

pub returns-in-Err-write_all-clause-ran : goal.returns-in-Err-write_all-clause-ran
returns-in-Err-write_all-clause-ran g c =
    let served = rw (c.in-Ok.ensures, c.replace-listeners.ensures.value, c.in-Ok-keep_all.kept-is, c.in-Ok-keep_all.listen_failed-is) at c.in-Ok-keep_all.ensures in
    (c.in-Ok-keep_all.kept.catalogue.entries, c.in-Ok-line.line.bytes, c.in-Ok-keep_all.listen_failed, record { begun = c.in-Ok-open.kept; kept = c.in-Ok-keep_all.kept; opened = c.in-Ok-open.ensures.ok; served = served; left_as = rw c.in-Ok-keep_all.kept-is at c.close.ensures; history_is = refl }, search rules, search rules)

pub returns-in-Ok-write_all-clause-ran : goal.returns-in-Ok-write_all-clause-ran
returns-in-Ok-write_all-clause-ran g c =
    let served = rw (c.in-Ok.ensures, c.replace-listeners.ensures.value, c.in-Ok-keep_all.kept-is, c.if-listen_failed.true) at c.in-Ok-keep_all.ensures in
    (c.in-Ok-keep_all.kept.catalogue.entries, c.in-Ok-line.line.bytes, record { begun = c.in-Ok-open.kept; kept = c.in-Ok-keep_all.kept; opened = c.in-Ok-open.ensures.ok; served = served; left_as = rw c.in-Ok-keep_all.kept-is at c.close.ensures; history_is = refl }, search rules, search rules)

pub returns-clause-ran : goal.returns-clause-ran
returns-clause-ran g c =
    let served = rw (c.in-Ok.ensures, c.replace-listeners.ensures.value, c.in-Ok-keep_all.kept-is, c.if-listen_failed.false) at c.in-Ok-keep_all.ensures in
    (c.in-Ok-keep_all.kept.catalogue.entries, c.in-Ok-line.line.bytes, record { begun = c.in-Ok-open.kept; kept = c.in-Ok-keep_all.kept; opened = c.in-Ok-open.ensures.ok; served = served; left_as = rw c.in-Ok-keep_all.kept-is at c.close.ensures; history_is = refl }, search rules, search rules)
