use Rattle.std.proofs.Common.{map, take}
use Rattle.std.specs.Arc.{arc_value}
use Rattle.sc_kept.specs.Record.{AreDocumentsOf}
use Rattle.sc_kept.proofs.documents.read_documents.Given as goal

abbrev pub invariant-loop-text : goal.invariant-loop-text
invariant-loop-text l = AreDocumentsOf l.collection (take l.text-index l.texts) (map arc_value l.items.items)
