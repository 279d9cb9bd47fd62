use Rattle.std.proofs.Common.{map}
use Rattle.std.proofs.lemmas.Result.{err_from_is_err_and}
use Rattle.std.specs.Arc.{arc_value}
use Rattle.sc_load.specs.Load.{collection_of}
use Rattle.sc_history.specs.History.{replay}
use Rattle.sc_catalog.proofs.Preparing.{bytes_told, come_refused, full_refused, made_is, told_refused}
use Rattle.sc_catalog.proofs.Overfull.{exact_bytes, has_room}
use Rattle.sc_catalog.proofs.next.admit.Goals as goal

pub returns-in_err-refuse_plainly : goal.returns-in_err-refuse_plainly
returns-in_err-refuse_plainly c = λ past r.
    let made = made_is (λ k. k.now) c.find.result c.is_some-made.result c.collection.result.now (collection_of c.args.load.now) c.args.collections.now (replay past).collections c.is_some-made.ensures c.find.ensures c.collection.ensures r.collections_are in
    let p = err_from_is_err_and c.from_residual.result c.from_residual.ensures.1 in
    rw (p.1, p.2) (told_refused past c.args.load.now c.in_err-refuse_plainly.field-0.0 (c.in_err-refuse_plainly.ensures (replay past) made r.indexes))

pub returns-in_err-come : goal.returns-in_err-come
returns-in_err-come c = λ past r.
    let made = made_is (λ k. k.now) c.find.result c.is_some-made.result c.collection.result.now (collection_of c.args.load.now) c.args.collections.now (replay past).collections c.is_some-made.ensures c.find.ensures c.collection.ensures r.collections_are in
    let none = c.in_ok-refuse_plainly.ensures (replay past) made r.indexes in
    let p = err_from_is_err_and c.from_residual-in_err-come.result c.from_residual-in_err-come.ensures.1 in
    rw (p.1, p.2) (come_refused past c.args.load.now c.in_err-come.field-0.0 none (c.in_err-come.ensures (replay past) r.indexes none))

pub returns-in_err-refuse_full : goal.returns-in_err-refuse_full
returns-in_err-refuse_full c = λ past r.
    let made = made_is (λ k. k.now) c.find.result c.is_some-made.result c.collection.result.now (collection_of c.args.load.now) c.args.collections.now (replay past).collections c.is_some-made.ensures c.find.ensures c.collection.ensures r.collections_are in
    let none = c.in_ok-refuse_plainly.ensures (replay past) made r.indexes in
    let bytes = bytes_told past c.args.load.now c.args.bytes c.in_ok-size.field-0 c.saturating_add-bytes.result r.is r.bytes_are c.in_ok-size.ensures c.saturating_add-bytes.ensures in
    let p = err_from_is_err_and c.from_residual-in_err-refuse_full.result c.from_residual-in_err-refuse_full.ensures.1 in
    rw (p.1, p.2) (full_refused past c.args.load.now (map arc_value c.in_ok-come.come.items) c.args.revision c.saturating_add-bytes.result c.in_err-refuse_full.field-0.0 r.is
    (record { formed = c.requires.formed; no_fault = none; puts = c.in_ok-come.ensures (replay past) r.indexes none }) r.revision_is bytes c.in_err-refuse_full.ensures)

pub returns : goal.returns
returns c = λ past r.
    let made = made_is (λ k. k.now) c.find.result c.is_some-made.result c.collection.result.now (collection_of c.args.load.now) c.args.collections.now (replay past).collections c.is_some-made.ensures c.find.ensures c.collection.ensures r.collections_are in
    let none = c.in_ok-refuse_plainly.ensures (replay past) made r.indexes in
    let bytes = bytes_told past c.args.load.now c.args.bytes c.in_ok-size.field-0 c.saturating_add-bytes.result r.is r.bytes_are c.in_ok-size.ensures c.saturating_add-bytes.ensures in
    record {
      allowed = record { formed = c.requires.formed; no_fault = none; puts = c.in_ok-come.ensures (replay past) r.indexes none };
      room = has_room past c.args.load.now c.args.revision c.saturating_add-bytes.result r.revision_is bytes c.in_ok-refuse_full.ensures.0 c.in_ok-refuse_full.ensures.1;
      bytes_are = exact_bytes c.saturating_add-bytes.result _ bytes c.in_ok-refuse_full.ensures.1;
    }
