use Rattle.std.proofs.Common.{◌≤◌, List, ℕ, length, take, drop, ap, ◌∙◌, arith}
use Rattle.sc_journal.proofs.Lists.{AreBytes-take}
use Rattle.sc_kept.proofs.Splitting.{whole_field}
use Rattle.sc_kept.proofs.fields.next_field.Goals as goal

pub returns : goal.returns
returns c =
    let bytes = c.args.bytes.now in
    let n = c.in_ok-size.size in
    let e = c.in_ok-size.ensures in
    let are = AreBytes-take 8 bytes (λ i. omega (arith, c.type_inv.bytes i)) in
    let front = c.split_at.ensures.front ∙ ap (λ (l : List ℕ). take n l) e.2 in
    let back = c.split_at.ensures.back ∙ ap (λ (l : List ℕ). drop n l) e.2 in
    let within : n ≤ length (drop 8 bytes) = omega (arith, c.if-size-rest.false, ap length e.2) in
    whole_field bytes n c.split_at.result.0.now c.split_at.result.1.now e.0 are e.1 front back within
