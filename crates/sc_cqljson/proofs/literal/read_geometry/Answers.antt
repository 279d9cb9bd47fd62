use Rattle.std.proofs.Common.{sym, subst}
use Rattle.sc_cqljson.specs.Drawn.{PlainOf}
use Rattle.sc_cqljson.specs.Told.{CantBeDrawn}
use Rattle.sc_cqljson.proofs.Refusing.{refused}
use Rattle.sc_cqljson.proofs.literal.read_geometry.Goals as goal

pub returns-in-Err : goal.returns-in-Err
returns-in-Err c = subst (CantBeDrawn (PlainOf c.args.tree.now)) (sym c.unreadable.ensures) (refused c.args.tree.now c.in-Err.fault c.in-Err.ensures)
