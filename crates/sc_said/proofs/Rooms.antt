-- How long the body of a load's reply is.
use Rattle.std.proofs.Common.{◌≡◌, ℕ, ◌+◌, ◌<◌, ◌≤◌, ◌^◌, List, [], ◌∷◌, ◌++◌, length, arith, length-append}
use Rattle.std.specs.Prelude.{decimal}
use Rattle.std.proofs.lemmas.Fmt.{length-decimal-le}
use Rattle.sc_said.specs.Said.{revision_start, items_start, load_text, not_stored_start, not_stored_text}

pub load_length : (revision items : ℕ) → length (load_text revision items) ≡ length revision_start + (length (decimal revision) + (length items_start + (length (decimal items) + 1)))
load_length revision items = simp length-append (omega arith)

starts : length revision_start + length items_start ≤ 21
unfolding revision_start items_start
starts = omega arith

pub load_short : (revision items : ℕ) → revision < 2 ^ 64 → items < 2 ^ 64 → length (load_text revision items) ≤ 64
load_short revision items a b =
    let x : length (decimal revision) ≤ 20 = length-decimal-le 20 revision (omega arith) (omega arith) a in
    let y : length (decimal items) ≤ 20 = length-decimal-le 20 items (omega arith) (omega arith) b in
    omega (arith, load_length revision items, starts, x, y)

pub not_stored_length : (stored : ℕ) → length (not_stored_text stored) ≡ length not_stored_start + (length (decimal stored) + 2)
not_stored_length stored = simp length-append (omega arith)

start_short : length not_stored_start ≤ 35
unfolding not_stored_start
start_short = omega arith

pub not_stored_short : (stored : ℕ) → stored < 2 ^ 64 → length (not_stored_text stored) ≤ 64
not_stored_short stored small =
    let x : length (decimal stored) ≤ 20 = length-decimal-le 20 stored (omega arith) (omega arith) small in
    omega (arith, not_stored_length stored, start_short, x)
