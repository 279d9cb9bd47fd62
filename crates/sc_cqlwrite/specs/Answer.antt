-- Which fault an expression has that isn't written.
use Rattle.std.specs.Prelude.{◌≡◌, true, false}
use Rattle.sc_expr.specs.declared.expr.Expr.{Expr}
use Rattle.sc_cqlwrite.specs.declared.fault.SpellFault.{SpellFault}
use Rattle.sc_cqlwrite.specs.declared.fault.SpellFault.TheVariants.{NoSpelling, OutOfMemory}
use Rattle.sc_cqlwrite.specs.Spellable.{some_text_ends}

-- want of memory may come of any expression that has a text
abbrev pub IsFault : SpellFault → Expr → Type 0
IsFault NoSpelling expr = some_text_ends expr ≡ true
IsFault OutOfMemory expr = some_text_ends expr ≡ false
