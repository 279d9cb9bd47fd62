use Rattle.std.proofs.Common.{find}
use Rattle.std.proofs.lemmas.Result.{IfOk-weaker}
use Rattle.sc_history.specs.Content.{is_called}
use Rattle.sc_serve.proofs.Finding.{of_none}
use Rattle.sc_serve.proofs.reading.say_collection.Goals as goal

pub returns-in-None : goal.returns-in-None
returns-in-None c =
    let found = find (is_called c.args.id.now) c.args.snapshot.now.collections in
    IfOk-weaker c.no_collection.result _ _ (λ said e. of_none c.args.id.now found said c.in-None.ensures e) c.no_collection.ensures
