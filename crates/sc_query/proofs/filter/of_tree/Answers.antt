use Rattle.std.proofs.Common.{refl}
use Rattle.sc_query.specs.declared.filter.Language.TheVariants as languages
use Rattle.sc_query.specs.Given.{in_tree}
use Rattle.sc_query.specs.Filters.{FilterReadsIn, of_tree, fault_of_tree}
use Rattle.sc_query.proofs.Chain.{judged}
use Rattle.sc_query.proofs.filter.of_tree.Goals as goal

pub returns-in-Ok : goal.returns-in-Ok
returns-in-Ok c = of_tree c.args.tree.now _ refl c.in-Ok.ensures

pub returns-in-Err : goal.returns-in-Err
returns-in-Err c = judged (FilterReadsIn (in_tree c.args.tree.now) languages.Tree) _ _ c.no_filter.ensures.known c.no_filter.ensures.bad (λ known. fault_of_tree c.args.tree.now c.in-Err.fault refl c.in-Err.ensures known)
