use Rattle.std.proofs.Common.{sym, ◌∙◌}
use Rattle.sc_cqlwrite.specs.Spellable.{scalar_texts}
use Rattle.sc_cqlwrite.proofs.Texts.{any_found, any_goes_on, none_found}
use Rattle.sc_cqlwrite.proofs.spellable.any_scalar_ends.Goals as goal

pub returns-then-scalar_ends : goal.returns-then-scalar_ends
returns-then-scalar_ends c =
    any_found scalar_texts c.args.scalars.now c.loop-scalar.scalar-index c.scalar-item.result _
    c.loop-scalar-test.true c.scalar-item.is (sym c.scalar_ends.ensures ∙ c.if-scalar_ends.true) c.loop-scalar.invariant

pub loop-scalar-preserved : goal.loop-scalar-preserved
loop-scalar-preserved c =
    any_goes_on scalar_texts c.args.scalars.now c.loop-scalar.scalar-index c.scalar-item.result _
    c.loop-scalar-test.true c.scalar-item.is (sym c.scalar_ends.ensures ∙ c.if-scalar_ends.false) c.loop-scalar.invariant

pub returns : goal.returns
returns c = none_found scalar_texts c.args.scalars.now c.loop-scalar.scalar-index _ c.loop-scalar-test.false c.loop-scalar.invariant
