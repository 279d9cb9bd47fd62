use Rattle.std.proofs.Common.{◌≡◌, ◌≤◌, ◌-◌, List, ℕ, length, get_or, take, drop, subst, arith}
use Rattle.std.proofs.lemmas.List.{take_all, length-drop}
use Rattle.std.specs.Int.{w64, from_be_bytes}
use Rattle.sc_journal.proofs.Gates.{opened, AreBytes-rest, cut_gate, open_gate_at}
use Rattle.sc_journal.proofs.reading.gate_of.Goals as goal

pub returns-in-Some-clause-gate : goal.returns-in-Some-clause-gate
returns-in-Some-clause-gate c = λ rest is left some.
    let front = c.args.front.now in
    let size = c.in-Some.size in
    let one : get_or front 0 0 ≡ 1 = c.if-gate-ne1.false in
    let whole = opened front rest c.in-len1-up.len_at_least one is in
    let all : take (length front - 1) (drop 1 front) ≡ drop 1 front = take_all (length front - 1) (drop 1 front) (omega (arith, length-drop 1 front)) in
    let e = subst (λ (l : List ℕ). (8 ≤ length l) × (size ≡ from_be_bytes w64 (take 8 l))) all c.in-Some.ensures in
    open_gate_at rest (drop 1 front) size (AreBytes-rest front (λ i. omega (arith, c.type_inv.front i))) whole e.0 e.1 (omega (arith, c.if-size-saturating_sub.true, c.saturating_sub.ensures, left))

pub returns-in_default-number_at-clause-gate : goal.returns-in_default-number_at-clause-gate
returns-in_default-number_at-clause-gate c = λ rest is left some.
    let front = c.args.front.now in
    let size = c.in-Some.size in
    let one : get_or front 0 0 ≡ 1 = c.if-gate-ne1.false in
    let whole = opened front rest c.in-len1-up.len_at_least one is in
    let all : take (length front - 1) (drop 1 front) ≡ drop 1 front = take_all (length front - 1) (drop 1 front) (omega (arith, length-drop 1 front)) in
    let e = subst (λ (l : List ℕ). (8 ≤ length l) × (size ≡ from_be_bytes w64 (take 8 l))) all c.in-Some.ensures in
    cut_gate rest (drop 1 front) size whole e.0 e.1 (omega (arith, c.if-size-saturating_sub.false, c.saturating_sub.ensures, left))
