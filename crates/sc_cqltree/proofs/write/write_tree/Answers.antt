use Rattle.std.proofs.Common.{◌∙◌, ap}
use Rattle.sc_cqltree.specs.Written.{written}
use Rattle.sc_cqltree.proofs.SpelledExpressions.{filter_again}
use Rattle.sc_cqltree.proofs.write.write_tree.Goals as goal

pub no_other_filter-requires : goal.no_other_filter-requires
no_other_filter-requires c = filter_again c.args.filter.now c.in_ok-tree.tree c.expr.ensures.kept (c.in_ok-tree.ensures ∙ ap written c.expr.ensures.expr)

pub returns-clause-read : goal.returns-clause-read
returns-clause-read c = filter_again c.args.filter.now c.in_ok-tree.tree c.expr.ensures.kept (c.in_ok-tree.ensures ∙ ap written c.expr.ensures.expr)
