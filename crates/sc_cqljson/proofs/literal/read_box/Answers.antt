use Rattle.sc_cqljson.proofs.Drawing.{box_refused}
use Rattle.sc_cqljson.proofs.literal.read_box.Goals as goal

pub returns : goal.returns
returns c =
    let e = rw c.in-Some.is at c.in_ok-numbers.ensures in
    let none = rw c.as_slice.ensures.value at c.in-None.ensures in
    box_refused c.args.value.now c.in-Some.numbers.items e none
