use Rattle.std.proofs.Common.{ap, ◌∙◌, ◌++◌, ◌∷◌, []}
use Rattle.sc_turn.specs.Passes.{pass_number, pass_seen}
use Rattle.bench_turn.specs.Numbers.{entries_of}
use Rattle.bench_turn.proofs.Own.{own_kept, own_added}
use Rattle.bench_turn.proofs.worker.add.Goals as goal

pub returns-in-Ok-clause-own : goal.returns-in-Ok-clause-own
returns-in-Ok-clause-own g c =
    let found = entries_of c.enter-turn.result.value in
    own_added (pass_number c.args.pass.now) c.args.number found (pass_seen c.leave.new.self) (c.leave.ensures.seen ∙ c.in-Ok.ensures.ok ∙ ap (λ n. found ++ (n, c.args.number) ∷ []) c.number-by.ensures)
    ∙ ap (λ l. l ++ (pass_number c.args.pass.now, c.args.number) ∷ []) (own_kept _ (pass_seen c.args.pass.now) found c.enter-turn.ensures.found)
