use Rattle.std.proofs.Common.{sym, ◌∙◌}
use Rattle.sc_cqlwrite.specs.Spellable.{texts_of}
use Rattle.sc_cqlwrite.proofs.Texts.{any_found, any_goes_on, none_found}
use Rattle.sc_cqlwrite.proofs.spellable.+ends.Goals as goal

pub any_member_ends-returns-then-some_text_ends : goal.any_member_ends-returns-then-some_text_ends
any_member_ends-returns-then-some_text_ends t c =
    any_found texts_of c.args.members.now c.loop-member.member-index c.member-item.result _
    c.loop-member-test.true c.member-item.is (sym c.some_text_ends.ensures ∙ c.if-some_text_ends.true) c.loop-member.invariant

pub any_member_ends-loop-member-preserved : goal.any_member_ends-loop-member-preserved
any_member_ends-loop-member-preserved t c =
    any_goes_on texts_of c.args.members.now c.loop-member.member-index c.member-item.result _
    c.loop-member-test.true c.member-item.is (sym c.some_text_ends.ensures ∙ c.if-some_text_ends.false) c.loop-member.invariant

pub any_member_ends-returns : goal.any_member_ends-returns
any_member_ends-returns t c = none_found texts_of c.args.members.now c.loop-member.member-index _ c.loop-member-test.false c.loop-member.invariant
