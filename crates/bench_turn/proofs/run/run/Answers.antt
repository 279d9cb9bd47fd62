use Rattle.std.proofs.Common.{◌∙◌, ap, refl, subst, arith}
use Rattle.sc_turn.specs.Passes.{desk_id}
use Rattle.bench_turn.specs.Numbers.{entries_of}
use Rattle.bench_turn.specs.Runs.{AreBound}
use Rattle.bench_turn.proofs.Lists.{cards_of, cards_all, has_run}
use Rattle.bench_turn.proofs.run.run.Goals as goal

pub close-requires-clause-of : goal.close-requires-clause-of
close-requires-clause-of g c =
    let a = c.work_all.new.workers.ok.0 in
    let b = c.bind_all-pool.result.ok.0 in
    let e = c.work_all.ensures.0 in
    cards_of (desk_id c.in-Ok.desk) _ c.bind_all-pool.result.items c.work_all.new.workers.items c.unbind_all-cards.result c.bind_all-pool.ensures (omega arith) c.work_all.ensures.1 c.unbind_all-cards.ensures

pub close-requires-clause-all : goal.close-requires-clause-all
close-requires-clause-all g c =
    let a = c.work_all.new.workers.ok.0 in
    let b = c.bind_all-pool.result.ok.0 in
    let e = c.work_all.ensures.0 in
    cards_all (desk_id c.in-Ok.desk) _ c.bind_all-pool.result.items c.work_all.new.workers.items c.unbind_all-cards.result c.bind_all-pool.ensures (omega arith) c.work_all.ensures.1 c.unbind_all-cards.ensures _ refl

pub returns : goal.returns
returns g c =
    let a = c.work_all.new.workers.ok.0 in
    let b = c.bind_all-pool.result.ok.0 in
    let e = c.work_all.ensures.0 in
    let made = c.in-Ok.ensures.desk in
    has_run (desk_id c.in-Ok.desk) c.args.workers c.bind_all-pool.result.items c.work_all.new.workers.items c.unbind_all-cards.result
    (subst (λ n. AreBound (desk_id c.in-Ok.desk) n c.bind_all-pool.result.items) made.0 c.bind_all-pool.ensures) (omega arith) c.work_all.ensures.1 c.unbind_all-cards.ensures c.args.workers _ (entries_of c.close.result) refl
    (ap entries_of made.1 ∙ c.in_ok-numbers.ensures) c.close.ensures
