use Rattle.std.proofs.Common.{◌∙◌, subst, sym, ◌<◌}
use Rattle.sc_tighten.proofs.Working.{total_is}
use Rattle.sc_tighten.proofs.laws.turns_count_once.Goals as goal

pub returns : goal.returns
returns c = record {
  done = λ turns count old new is. total_is is.0 count is.3 ∙ is.1;
  stopped = λ turns count old new is. subst (λ n. n < turns) (sym (total_is is.0 count is.5)) is.2;
}
