-- A member by its name, one member after another.
use Rattle.std.proofs.Common.{◌≡◌, ℕ, ◌+◌, ◌<◌, ◌≤◌, List, length, get_or, drop, true, false, Some, None, refl, add-one, drop-cons}
use Rattle.std.specs.Prelude.{nat_eq}
use Rattle.std.specs.Cmp.Lexicographic.{pointwise}
use Rattle.std.proofs.Math.ListN.{drop_of_length-le}
use Rattle.sc_json.specs.declared.tree.Member.{Member, out-Member}
use Rattle.sc_json.specs.Member.{value_in}

pub found : (ms : List Member) (i : ℕ) (m : Member) (name : List ℕ) → i < length ms → m ≡ get_or ms i m → pointwise nat_eq (out-Member m).name name ≡ true → value_in (drop i ms) name ≡ Some (out-Member m).value
found ms i m name lt is e = rw (drop-cons ms i m, ← is, e) refl

pub other : (ms : List Member) (i : ℕ) (m : Member) (name : List ℕ) → i < length ms → m ≡ get_or ms i m → pointwise nat_eq (out-Member m).name name ≡ false → value_in (drop i ms) name ≡ value_in (drop (i + 1) ms) name
other ms i m name lt is e = rw (add-one, drop-cons ms i m, ← is, e) refl

pub none_left : (ms : List Member) (i : ℕ) (name : List ℕ) → length ms ≤ i → value_in (drop i ms) name ≡ None
none_left ms i name le = rw (drop_of_length-le ms le) refl
