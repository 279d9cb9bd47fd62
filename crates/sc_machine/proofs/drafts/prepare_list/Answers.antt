use Rattle.std.proofs.Common.{◌≡◌, MatchResult, ap, ◌∙◌, subst, sym}
use Rattle.sc_json.specs.Good.{Good}
use Rattle.sc_load.specs.Features.{trees_of}
use Rattle.sc_load.specs.Prepared.{Puts, IsItemsFault}
use Rattle.sc_machine.proofs.Wrapped.{wrapped_good, wrapped_trees}
use Rattle.sc_machine.proofs.drafts.prepare_list.Goals as goal

pub prepare_items-requires : goal.prepare_items-requires
prepare_items-requires c = subst Good (sym c.in_ok-tree.ensures) (wrapped_good c.args.items c.requires)

pub returns-clause-answer : goal.returns-clause-answer
returns-clause-answer c =
    let same : trees_of c.in_ok-tree.tree ≡ c.args.items = ap trees_of c.in_ok-tree.ensures ∙ wrapped_trees c.args.items in
    subst (λ trees. MatchResult c.prepare_items.result (Puts c.args.collection.now c.args.upsert trees) (IsItemsFault c.args.collection.now trees)) same c.prepare_items.ensures.answer
