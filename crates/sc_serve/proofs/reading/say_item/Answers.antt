use Rattle.std.proofs.Common.{find}
use Rattle.std.proofs.lemmas.Result.{IfOk-weaker}
use Rattle.sc_history.specs.Content.{is_called, item_in}
use Rattle.sc_shelf.specs.Kept.{all_items}
use Rattle.sc_serve.proofs.Finding.{item_none, item_some}
use Rattle.sc_serve.proofs.reading.say_item.Goals as goal

pub returns-in-None : goal.returns-in-None
returns-in-None c =
    let found = find (is_called c.args.collection.now) c.args.snapshot.now.collections in
    let item = item_in (all_items c.args.snapshot.now.parts) c.args.collection.now c.args.id.now in
    IfOk-weaker c.no_collection.result _ _ (λ said e. item_none c.args.collection.now c.args.id.now found item said c.in-None.ensures e) c.no_collection.ensures

pub returns-in-Some : goal.returns-in-Some
returns-in-Some c =
    let found = find (is_called c.args.collection.now) c.args.snapshot.now.collections in
    let item = item_in (all_items c.args.snapshot.now.parts) c.args.collection.now c.args.id.now in
    IfOk-weaker c.say_item_of.result _ _ (λ said e. item_some c.args.collection.now c.args.id.now found item _ said c.in-Some.ensures e) c.say_item_of.ensures
