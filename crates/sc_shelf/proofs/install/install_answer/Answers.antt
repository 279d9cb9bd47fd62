use Rattle.std.proofs.Common.{ap, sym}
use Rattle.sc_history.specs.Installs.{answer}
use Rattle.sc_shelf.proofs.Splitting.{found_split}
use Rattle.sc_shelf.proofs.install.install_answer.Goals as goal

pub returns : goal.returns
returns c =
    let found = rw c.name.ensures at (found_split c.name.result.now c.args.old.now _ _ _ c.split_at.ensures) in
    rw (c.answer_at.ensures, c.stamp.ensures) (ap (answer c.args.tight.now.stamp) (sym found))
