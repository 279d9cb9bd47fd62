-- What stands ready is formed as the grammar asks (OGC 21-065r2, Annex B): chains have two members or more, lists have an
-- element, names aren't empty, and geometries have at most 1,000 positions.
use Rattle.std.specs.Prelude.{All}
use Rattle.sc_expr.specs.Form.{IsFormedScalar, IsFormedShape, IsFormed}
use Rattle.sc_cqlvalue.specs.declared.state.State.{State}

pub record AreFormed (s : State) : Type 0 where
  pub scalars : All IsFormedScalar s.scalars
  pub listed : All IsFormedScalar s.listed
  pub exprs : All IsFormed s.exprs
  pub shapes : All IsFormedShape s.shapes
