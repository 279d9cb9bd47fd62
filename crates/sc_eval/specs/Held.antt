-- What an operand is seen as.
use Rattle.sc_eval.specs.declared.operand.Operand.{Operand}
use Rattle.sc_eval.specs.declared.operand.Operand.TheVariants as operands
use Rattle.sc_eval.specs.Property.{PropertyValue, text, seen}

abbrev pub held : Operand → PropertyValue
held (operands.Lent value) = seen value
held (operands.Folded t) = text t
