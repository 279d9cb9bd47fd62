use Rattle.std.proofs.Common.{sym, ◌∙◌}
use Rattle.sc_item.proofs.Placing.{named_again, named_first}
use Rattle.sc_item.proofs.places.insert_place.Goals as goal

pub returns-then-contains_key : goal.returns-then-contains_key
returns-then-contains_key c = named_again c.args.places c.args.before.now c.args.member.now (sym c.contains_key.ensures ∙ c.if-contains_key.true) c.requires

pub returns : goal.returns
returns c = λ name.
    named_first c.args.places c.insert.new.self c.args.before.now c.args.member.now (sym c.contains_key.ensures ∙ c.if-contains_key.false) c.requires (λ q. rw c.in_ok-name.ensures at c.in_ok-insert.ensures.updates.0 q) name
