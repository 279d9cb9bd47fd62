use Rattle.sc_tighten.proofs.Working.{work_quiet, work_listens}
use Rattle.sc_tighten.proofs.laws.work_only_hears_and_looks.Goals as goal

pub returns : goal.returns
returns c = record {
  desk = work_quiet;
  queue = λ turns done old new is. let l = work_listens turns done old new is in (l.of_is, l.shares_are);
  told = λ turns done old new is. (work_listens turns done old new is).told_are;
}
