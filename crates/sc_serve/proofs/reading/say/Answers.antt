use Rattle.std.proofs.Common.{false, subst, sym}
use Rattle.std.proofs.lemmas.Result.{IfOk-weaker}
use Rattle.sc_serve.specs.Replies.{SaysOf}
use Rattle.sc_serve.proofs.Saying.{says_collections, says_collection, says_item, says_search}
use Rattle.sc_serve.proofs.reading.say.Goals as goal

pub returns-in-Landing : goal.returns-in-Landing
returns-in-Landing g c entries is = IfOk-weaker c.say_landing.result _ _ (λ said e. subst (λ w. SaysOf c.args.base.now w entries false said) (sym c.in-Landing.is) e) c.say_landing.ensures

pub returns-in-Conformance : goal.returns-in-Conformance
returns-in-Conformance g c entries is =
    IfOk-weaker c.say_conformance.result _ _ (λ said e. subst (λ w. SaysOf c.args.base.now w entries false said) (sym c.in-Conformance.is) e) c.say_conformance.ensures

pub returns-in-Queryables : goal.returns-in-Queryables
returns-in-Queryables g c entries is =
    IfOk-weaker c.say_queryables.result _ _ (λ said e. subst (λ w. SaysOf c.args.base.now w entries false said) (sym c.in-Queryables.is) e) c.say_queryables.ensures

pub returns-in-Collections : goal.returns-in-Collections
returns-in-Collections g c entries is =
    IfOk-weaker c.say_collections.result _ _ (λ said e. subst (λ w. SaysOf c.args.base.now w entries false said) (sym c.in-Collections.is)
    (says_collections c.args.base.now entries c.args.snapshot.now is said e)) c.say_collections.ensures

pub returns-in-Collection : goal.returns-in-Collection
returns-in-Collection g c entries is =
    IfOk-weaker c.say_collection.result _ _ (λ said e. subst (λ w. SaysOf c.args.base.now w entries false said) (sym c.in-Collection.is)
    (says_collection c.args.base.now entries c.args.snapshot.now is said c.in-Collection.id e)) c.say_collection.ensures

pub returns-in-Item : goal.returns-in-Item
returns-in-Item g c entries is =
    IfOk-weaker c.say_item.result _ _ (λ said e. subst (λ w. SaysOf c.args.base.now w entries false said) (sym c.in-Item.is)
    (says_item c.args.base.now entries c.args.snapshot.now is said c.in-Item.collection c.in-Item.id e)) c.say_item.ensures

pub returns-in-Search : goal.returns-in-Search
returns-in-Search g c entries is =
    IfOk-weaker c.say_search.result _ _ (λ said e. subst (λ w. SaysOf c.args.base.now w entries false said) (sym c.in-Search.is)
    (says_search c.args.base.now entries c.args.snapshot.now is said c.in-Search.within c.in-Search.query c.in-Search.links e)) c.say_search.ensures
