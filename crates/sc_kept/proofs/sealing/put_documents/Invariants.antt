use Rattle.std.proofs.Common.{map, take}
use Rattle.std.specs.Prelude.{All}
use Rattle.std.specs.Arc.{arc_value}
use Rattle.sc_item.specs.Feature.{IsKept}
use Rattle.sc_kept.specs.Record.{AddsFields, document}
use Rattle.sc_kept.proofs.sealing.put_documents.Given as goal

abbrev pub invariant-loop-item : goal.invariant-loop-item
invariant-loop-item l = record {
  fields : AddsFields l.fn.out.items l.out.items (map document (map arc_value (take l.item-index l.items)));
  kept : All IsKept (map arc_value (take l.item-index l.items));
}
