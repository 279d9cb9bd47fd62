use Rattle.std.proofs.Common.{◌≡◌, ℕ, List, Some, subst}
use Rattle.sc_json.specs.Member.{member_value}
use Rattle.sc_item.proofs.whole.has_collection.Goals as goal

pub returns-in-Some : goal.returns-in-Some
returns-in-Some c = (c.in-Some._value.now, subst (λ (x : List ℕ). member_value c.args.tree.now x ≡ Some c.in-Some._value.now) c.collection_name.ensures c.in-Some.ensures)
