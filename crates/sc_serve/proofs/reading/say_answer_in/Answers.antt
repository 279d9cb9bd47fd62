use Rattle.std.proofs.Common.{find}
use Rattle.std.proofs.lemmas.Result.{IfOk-weaker}
use Rattle.sc_history.specs.Content.{is_called}
use Rattle.sc_shelf.specs.Kept.{all_items}
use Rattle.sc_serve.proofs.Finding.{search_none_in, search_some_in}
use Rattle.sc_serve.proofs.reading.say_answer_in.Goals as goal

pub returns-in-None : goal.returns-in-None
returns-in-None g c =
    let found = find (is_called c.args.id.now) c.args.snapshot.now.collections in
    let items = all_items c.args.snapshot.now.parts in
    IfOk-weaker c.no_collection.result _ _ (λ said e. search_none_in c.args.query.now c.args.links.now items said found c.args.id.now c.in-None.ensures e) c.no_collection.ensures

pub returns-in-Some : goal.returns-in-Some
returns-in-Some g c =
    let found = find (is_called c.args.id.now) c.args.snapshot.now.collections in
    let items = all_items c.args.snapshot.now.parts in
    IfOk-weaker c.say_answer.result _ _ (λ said s. search_some_in c.args.query.now c.args.links.now items said found c.args.id.now _ c.in-Some.ensures s) c.say_answer.ensures
