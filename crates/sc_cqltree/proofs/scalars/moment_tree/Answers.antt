use Rattle.std.proofs.Common.{List, ℕ, ap}
use Rattle.std.proofs.lemmas.Result.{IfOk-weaker}
use Rattle.sc_json.specs.declared.tree.Json.TheVariants as trees
use Rattle.sc_cqljson.specs.Words.{timestamp_name}
use Rattle.sc_cqlwrite.specs.Moment.{moment_text}
use Rattle.sc_cqlwrite.proofs.Moments.{moment_is}
use Rattle.sc_cqltree.proofs.Reading.{only_of}
use Rattle.sc_cqltree.proofs.scalars.moment_tree.Goals as goal

pub returns : goal.returns
unfolding timestamp_name
returns c =
    IfOk-weaker c.only.result _ _
    (λ tree is. only_of timestamp_name (trees.Text c.in_ok-instant.instant) (trees.Text (moment_text c.args.at)) tree
    (ap (λ (t : List ℕ). trees.Text t) (moment_is c.args.at c.in_ok-instant.instant c.in_ok-instant.ensures.written)) is)
    c.only.ensures
