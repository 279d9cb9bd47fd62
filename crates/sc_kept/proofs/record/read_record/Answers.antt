use Rattle.std.proofs.Common.{ℕ, get_or, subst, List, arith}
use Rattle.sc_kept.specs.Record.{IsNotTold, IsTold}
use Rattle.sc_kept.proofs.Payloads.{is_payload, no_payload}
use Rattle.sc_kept.proofs.record.read_record.Goals as goal

pub returns-in-Some-2 : goal.returns-in-Some-2
returns-in-Some-2 c =
    let bytes = c.args.payload.now in
    let are = rw c.in-Some.is at c.in_ok-fields.ensures in
    let told : IsTold (get_or bytes 0 0) c.as_slice.result.now c.in-Some-2.load = rw c.in-Some-2.is at c.in_ok-load.ensures in
    is_payload bytes c.from_be_bytes-by.result c.in-Some-2.load c.in-Some.fields c.in-len5-up.len_at_least (λ i. omega (arith, c.type_inv.payload i)) c.from_be_bytes-by.ensures are
    (subst (λ (l : List (List ℕ)). IsTold (get_or bytes 0 0) l c.in-Some-2.load) c.as_slice.ensures told)

pub returns : goal.returns
returns c =
    let bytes = c.args.payload.now in
    let are = rw c.in-Some.is at c.in_ok-fields.ensures in
    let none : IsNotTold (get_or bytes 0 0) c.as_slice.result.now = rw c.in-None.is at c.in_ok-load.ensures in
    no_payload bytes c.in-Some.fields are (subst (λ (l : List (List ℕ)). IsNotTold (get_or bytes 0 0) l) c.as_slice.ensures none)
