use Rattle.sc_query.specs.declared.filter.Language.TheVariants as languages
use Rattle.sc_query.specs.Given.{in_text}
use Rattle.sc_query.specs.Filters.{FilterReadsIn, no_tree}
use Rattle.sc_query.proofs.Chain.{judged}
use Rattle.sc_query.proofs.Spelled.{spells_none, filter_spelled}
use Rattle.sc_query.proofs.filter.of_spelled.Goals as goal

pub returns-in-Ok : goal.returns-in-Ok
returns-in-Ok c = filter_spelled _ _ c.in-Ok.tree c.bytes.ensures.bytes c.in-Ok.ensures _ c.of_tree.ensures

pub returns-in-Err : goal.returns-in-Err
returns-in-Err c = judged (FilterReadsIn (in_text c.args.text.now) languages.Tree) _ _ c.unspelled.ensures.known c.unspelled.ensures.bad
    (λ known. no_tree (spells_none _ c.args.text.now c.in-Err.fault c.bytes.ensures.bytes c.in-Err.ensures known))
