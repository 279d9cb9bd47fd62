use Rattle.std.proofs.Common.{rules}
use Rattle.std.proofs.lemmas.List.Sorted.{ranks_by}
use Rattle.std.proofs.lemmas.Fn.{always_returns_same}
use Rattle.sc_walk.proofs.Fronts.{front_order_total}
use Rattle.sc_walk.proofs.ordering.sort_candidates.Goals as goal

pub returns : goal.returns
returns c = record {
  same = c.in_ok-sort_by.ensures.permutation;
  sorted = c.in_ok-sort_by.ensures.sorted _ (ranks_by (front_order_total c.args.sort.now) (λ x. x)) (always_returns_same _ _ _ (λ a r f' k. search rules));
}
