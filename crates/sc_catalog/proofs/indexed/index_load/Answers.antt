use Rattle.std.proofs.Common.{rules, sym, subst, map}
use Rattle.std.specs.Arc.{arc_value}
use Rattle.sc_index.specs.Found.{Indexes}
use Rattle.sc_history.specs.Changes.{Puts, apply}
use Rattle.sc_catalog.specs.Kept.{change_of}
use Rattle.sc_catalog.proofs.Indexing.{delete_after, drop_after, put_after}
use Rattle.sc_catalog.proofs.indexed.index_load.Goals as goal

pub returns-in-DropCollection : goal.returns-in-DropCollection
returns-in-DropCollection c = λ content p ix.
    subst (λ l. Indexes (apply content (change_of l (map arc_value c.args.come.items))).items c.remove_collection.new.self) (sym c.in-DropCollection.is)
    (drop_after content c.in-DropCollection.id (map arc_value c.args.come.items) c.args.index.now c.remove_collection.new.self (subst (λ l. Puts content.items l (map arc_value c.args.come.items)) c.in-DropCollection.is p) ix c.remove_collection.ensures)

pub returns-in-Delete : goal.returns-in-Delete
returns-in-Delete c = λ content p ix.
    subst (λ l. Indexes (apply content (change_of l (map arc_value c.args.come.items))).items c.remove.new.self) (sym c.in-Delete.is)
    (delete_after content c.in-Delete.collection c.in-Delete.id (map arc_value c.args.come.items) c.args.index.now c.remove.new.self (subst (λ l. Puts content.items l (map arc_value c.args.come.items)) c.in-Delete.is p) ix c.remove.ensures)

pub returns-in_default : goal.returns-in_default
returns-in_default c = λ content p ix. put_after content c.args.load.now (map arc_value c.args.come.items) c.args.index.now c.put.new.self c.requires.formed (search rules) p ix c.put.ensures
