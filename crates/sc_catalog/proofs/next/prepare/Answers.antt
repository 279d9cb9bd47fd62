use Rattle.std.proofs.Common.{map}
use Rattle.std.specs.Arc.{arc_value}
use Rattle.std.proofs.lemmas.Result.{err_from_is_err_and}
use Rattle.sc_catalog.proofs.Preparing.{collections_refused, few_made, few_names, parts_refused, ready_at}
use Rattle.sc_catalog.proofs.next.prepare.Goals as goal

pub returns-in_err-refuse_parts : goal.returns-in_err-refuse_parts
returns-in_err-refuse_parts c = λ past r.
    let come = map arc_value c.in_ok-admitted.admitted.come.items in
    let adm = c.in_ok-admitted.ensures past r in
    let aft = (rw c.deref.ensures.value at c.in_ok-after.ensures) past (ready_at past c.args.revision c.args.bytes c.args.collections.now c.args.parts.now c.args.index.now c.args.load.now come r adm.allowed) in
    let p = err_from_is_err_and c.from_residual-in_err-refuse_parts.result c.from_residual-in_err-refuse_parts.ensures.1 in
    rw (p.1, p.2) (parts_refused past c.args.load.now come c.args.parts.now c.in_ok-after.after.parts c.len.result c.in_err-refuse_parts.field-0.0 r.is adm.allowed adm.room r.stand aft.parts_are c.len.ensures c.in_err-refuse_parts.ensures)

pub returns-in_err-refuse_collections : goal.returns-in_err-refuse_collections
returns-in_err-refuse_collections c = λ past r.
    let come = map arc_value c.in_ok-admitted.admitted.come.items in
    let adm = c.in_ok-admitted.ensures past r in
    let aft = (rw c.deref.ensures.value at c.in_ok-after.ensures) past (ready_at past c.args.revision c.args.bytes c.args.collections.now c.args.parts.now c.args.index.now c.args.load.now come r adm.allowed) in
    let few = few_names past c.args.load.now come c.args.parts.now c.in_ok-after.after.parts c.len.result r.is adm.allowed r.stand aft.parts_are c.len.ensures c.in_ok-refuse_parts.ensures in
    let p = err_from_is_err_and c.from_residual-in_err-refuse_collections.result c.from_residual-in_err-refuse_collections.ensures.1 in
    rw (p.1, p.2) (collections_refused past c.args.load.now come c.args.collections.now c.in_ok-collections.collections c.len-2.result c.in_err-refuse_collections.field-0.0 adm.allowed adm.room few r.collections_are c.in_ok-collections.ensures c.len-2.ensures c.in_err-refuse_collections.ensures)

pub returns : goal.returns
returns c = λ past r.
    let come = map arc_value c.in_ok-admitted.admitted.come.items in
    let adm = c.in_ok-admitted.ensures past r in
    let aft = (rw c.deref.ensures.value at c.in_ok-after.ensures) past (ready_at past c.args.revision c.args.bytes c.args.collections.now c.args.parts.now c.args.index.now c.args.load.now come r adm.allowed) in
    let few = few_names past c.args.load.now come c.args.parts.now c.in_ok-after.after.parts c.len.result r.is adm.allowed r.stand aft.parts_are c.len.ensures c.in_ok-refuse_parts.ensures in
    record {
      accepted = record {
        allowed = adm.allowed;
        room = adm.room;
        parts = few;
        collections = few_made past c.args.load.now come c.args.collections.now c.in_ok-collections.collections c.len-2.result r.collections_are c.in_ok-collections.ensures c.len-2.ensures c.in_ok-refuse_collections.ensures;
      };
      bytes_are = adm.bytes_are;
      collections_are = c.in_ok-collections.ensures;
      parts_are = aft.parts_are;
      touched_are = aft.touched_are;
    }
