use Rattle.std.proofs.Common.{map}
use Rattle.std.specs.Arc.{arc_value}
use Rattle.sc_catalog.proofs.Preparing.{add_after, drop_after}
use Rattle.sc_catalog.proofs.parts.parts_after.Goals as goal

pub returns-in_ok-share-in-AddCollection : goal.returns-in_ok-share-in-AddCollection
returns-in_ok-share-in-AddCollection c = λ past at.
    add_after past c.args.revision c.args.collections.now c.args.parts.now c.args.index.now c.args.load.now (map arc_value c.args.come.now) c.in-AddCollection.id c.in-AddCollection.cut c.in-AddCollection.tree _ c.in-AddCollection.is at c.in_ok-share-in-AddCollection.ensures c.new.ensures.items

pub returns-in_ok-without_collection-in-DropCollection : goal.returns-in_ok-without_collection-in-DropCollection
returns-in_ok-without_collection-in-DropCollection c = λ past at.
    drop_after past c.args.revision c.args.collections.now c.args.parts.now c.args.index.now c.args.load.now (map arc_value c.args.come.now) c.in-DropCollection.id _ c.in-DropCollection.is at c.in_ok-without_collection-in-DropCollection.ensures c.new-in-DropCollection.ensures.items
