use Rattle.std.proofs.Common.{rules}
use Rattle.stacd.proofs.serving.serve.Goals as goal

pub returns-in-Err-write_all-clause-ran : goal.returns-in-Err-write_all-clause-ran
returns-in-Err-write_all-clause-ran g c =
    let served = rw (c.in-Ok.ensures, c.replace-listeners.ensures.value, c.in-Ok-serve_all.catalogue-is, c.in-Ok-serve_all.listen_failed-is) at c.in-Ok-serve_all.ensures in
    (c.in-Ok-serve_all.catalogue.entries, c.in-Ok-line_of_catalogue.line.bytes, c.in-Ok-serve_all.listen_failed, record { unheard = c.in-Ok-serve_all.field-0.unheard; served = served }, search rules, search rules)

pub returns-in-Ok-write_all-clause-ran : goal.returns-in-Ok-write_all-clause-ran
returns-in-Ok-write_all-clause-ran g c =
    let served = rw (c.in-Ok.ensures, c.replace-listeners.ensures.value, c.in-Ok-serve_all.catalogue-is, c.if-listen_failed.true) at c.in-Ok-serve_all.ensures in
    (c.in-Ok-serve_all.catalogue.entries, c.in-Ok-line_of_catalogue.line.bytes, record { unheard = c.in-Ok-serve_all.field-0.unheard; served = served }, search rules, search rules)

pub returns-clause-ran : goal.returns-clause-ran
returns-clause-ran g c =
    let served = rw (c.in-Ok.ensures, c.replace-listeners.ensures.value, c.in-Ok-serve_all.catalogue-is, c.if-listen_failed.false) at c.in-Ok-serve_all.ensures in
    (c.in-Ok-serve_all.catalogue.entries, c.in-Ok-line_of_catalogue.line.bytes, record { unheard = c.in-Ok-serve_all.field-0.unheard; served = served }, search rules, search rules)
