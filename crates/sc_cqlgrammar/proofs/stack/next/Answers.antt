use Rattle.std.proofs.Common.{map}
use Rattle.sc_cqlgrammar.specs.Machine.{item_of}
use Rattle.sc_cqlgrammar.proofs.Steps.{nothing_left, mark_in_front, token_in_front, rule_refused, rule_opened}
use Rattle.sc_cqlgrammar.proofs.Opening.{opened_needs_less}
use Rattle.sc_cqlgrammar.proofs.stack.next.Goals as goal

pub returns-in-None : goal.returns-in-None
returns-in-None c = nothing_left c.args.stack.now c.args.class c.loop-wanted.stack c.loop-wanted.invariant c.in-None.ensures

pub returns-in-Some-Token : goal.returns-in-Some-Token
returns-in-Some-Token c =
    token_in_front c.args.stack.now c.args.class c.loop-wanted.stack c.loop-wanted.invariant c.in-Some-Token.wanted c.pop.new.self c.compared.result
    (rw c.in-Some-Token.field-0-is at c.in-Some-Token.ensures) c.compared.ensures

pub returns-in-Some-Mark : goal.returns-in-Some-Mark
returns-in-Some-Mark c =
    mark_in_front c.args.stack.now c.args.class c.loop-wanted.stack c.loop-wanted.invariant c.in-Some-Mark.mark c.pop.new.self
    (rw c.in-Some-Mark.field-0-is at c.in-Some-Mark.ensures)

pub returns-in-None-alternative : goal.returns-in-None-alternative
returns-in-None-alternative c =
    rule_refused c.args.stack.now c.args.class c.loop-wanted.stack c.loop-wanted.invariant c.in-Some-Rule.rule c.pop.new.self
    (rw c.in-Some-Rule.field-0-is at c.in-Some-Rule.ensures) c.in-None-alternative.ensures

pub loop-wanted-preserved : goal.loop-wanted-preserved
loop-wanted-preserved c =
    rule_opened c.args.stack.now c.args.class c.loop-wanted.stack c.loop-wanted.invariant c.in-Some-Rule.rule (map item_of c.in-Some.items.now) c.pop.new.self c.put_all.new.stack
    (rw c.in-Some-Rule.field-0-is at c.in-Some-Rule.ensures) c.in-Some.ensures c.in_ok-put_all-in-Some.ensures

pub loop-wanted-smaller : goal.loop-wanted-smaller
loop-wanted-smaller c =
    opened_needs_less c.loop-wanted.stack c.in-Some-Rule.rule c.args.class (map item_of c.in-Some.items.now) c.pop.new.self c.put_all.new.stack
    (rw c.in-Some-Rule.field-0-is at c.in-Some-Rule.ensures) c.in-Some.ensures c.in_ok-put_all-in-Some.ensures
