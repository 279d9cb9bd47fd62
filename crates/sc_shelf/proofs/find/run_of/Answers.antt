use Rattle.std.proofs.Common.{rules}
use Rattle.std.proofs.lemmas.Fn.{always_returns_same}
use Rattle.std.proofs.lemmas.List.{take_rest}
use Rattle.sc_shelf.proofs.Splitting.{early_first, is_early, is_within, late_rest, rest_in_order, run_is, within_next}
use Rattle.sc_shelf.proofs.find.run_of.Goals as goal

pub returns : goal.returns
returns c =
    let collection = c.args.collection.now in
    let parts = c.args.parts.now in
    let from = c.partition_point-from.result in
    let count = c.partition_point-count.result in
    let bound = c.partition_point-from.ensures.bound in
    let rest = take_rest parts from in
    let first = c.partition_point-from.ensures.partitioned (is_early collection) (always_returns_same _ _ _ (λ a r f' k. search rules)) (early_first collection parts c.requires) in
    let late = late_rest collection parts from bound first.1 in
    let within = within_next collection _ (rest_in_order parts from bound c.requires) late in
    let second = rw rest at (c.partition_point-count.ensures.partitioned (is_within collection) (always_returns_same _ _ _ (λ a r f' k. search rules))) in
    rw rest (run_is collection parts from count bound (rw rest at c.partition_point-count.ensures.bound) first.0 (second within))
