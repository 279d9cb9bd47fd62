use Rattle.std.proofs.lemmas.Result.{IfOk-weaker}
use Rattle.sc_page.specs.Search.{shared}
use Rattle.sc_serve.proofs.reading.say_answer.Goals as goal

pub returns : goal.returns
returns g c = IfOk-weaker c.say_page.result _ _ (λ said e. (shared c.in_ok-page.page.items, c.in_ok-page.page.next, c.in_ok-page.ensures.page, e)) c.say_page.ensures
