use Rattle.sc_document.proofs.Joined.{trees_written}
use Rattle.sc_document.proofs.list.push_trees.Goals as goal

pub returns : goal.returns
returns c = trees_written _ _ _ _ _ _ c.in-Some.ensures.cases.0 c.in_ok-push_json.ensures c.in_ok-push_more.ensures
