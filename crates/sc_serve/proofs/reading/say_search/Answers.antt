use Rattle.std.proofs.Common.{subst, sym}
use Rattle.std.proofs.lemmas.Result.{IfOk-weaker}
use Rattle.sc_shelf.specs.Kept.{all_items}
use Rattle.sc_serve.specs.Replies.{OfSearch}
use Rattle.sc_serve.proofs.reading.say_search.Goals as goal

pub returns-in-None : goal.returns-in-None
returns-in-None g c =
    let items = all_items c.args.snapshot.now.parts in
    IfOk-weaker c.say_answer.result _ _ (λ said s. subst (λ w. OfSearch w c.args.query.now c.args.links.now c.args.snapshot.now.collections items said) (sym c.in-None.is) s) c.say_answer.ensures

pub returns-in-Some : goal.returns-in-Some
returns-in-Some g c =
    let items = all_items c.args.snapshot.now.parts in
    IfOk-weaker c.say_answer_in.result _ _ (λ said s. subst (λ w. OfSearch w c.args.query.now c.args.links.now c.args.snapshot.now.collections items said) (sym c.in-Some.is) s) c.say_answer_in.ensures
