use Rattle.std.proofs.Common.{arith, ap, ◌≡◌, length}
use Rattle.sc_sort.specs.Sorts.{keys_of_text}
use Rattle.sc_sort.proofs.Commas.{some_key}
use Rattle.sc_sort.proofs.text.read_sort_text.Goals as goal

pub new-requires : goal.new-requires
new-requires c =
    let some = some_key c.as_str-text.result.now in
    let count = c.in-Some.ensures.1 in
    let few = c.if-count-gt-MOST_KEYS.false in
    let same : length c.in_ok-keys.keys.items ≡ length (keys_of_text c.as_str-text.result.now) = ap length c.in_ok-keys.ensures in
    record { some = omega (arith, some, same); few = omega (arith, count, few, same) }
