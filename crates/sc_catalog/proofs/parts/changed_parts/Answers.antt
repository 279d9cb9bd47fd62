use Rattle.std.proofs.Common.{map}
use Rattle.std.specs.Arc.{arc_value}
use Rattle.sc_catalog.proofs.Preparing.{collection_there, cut_at}
use Rattle.sc_catalog.proofs.parts.changed_parts.Goals as goal

pub cut_parts-requires : goal.cut_parts-requires
cut_parts-requires c = record {
  past = c.requires.ready.past;
  at = cut_at c.requires.ready.past c.args.revision c.args.collections.now c.args.parts.now c.args.index.now c.args.load.now (map arc_value c.args.come.now) c.in-Some.collection.now c.cut.result c.collection.result.now c.requires.items c.requires.ready.at
      c.in-Some.ensures c.collection.ensures c.cut.ensures;
}

pub returns : goal.returns
returns c = λ past at. c.in_ok-after-in-Some.ensures past
    (cut_at past c.args.revision c.args.collections.now c.args.parts.now c.args.index.now c.args.load.now (map arc_value c.args.come.now) c.in-Some.collection.now c.cut.result c.collection.result.now c.requires.items at c.in-Some.ensures c.collection.ensures c.cut.ensures)

pub unreachable-requires : goal.unreachable-requires
unreachable-requires c =
    collection_there c.requires.ready.past c.args.revision c.args.collections.now c.args.parts.now c.args.index.now c.args.load.now (map arc_value c.args.come.now) c.collection.result.now c.requires.items c.requires.ready.at
    c.in-None.ensures c.collection.ensures
