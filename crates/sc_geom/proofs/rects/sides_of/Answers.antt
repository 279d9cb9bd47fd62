use Rattle.std.proofs.Common.{sym, ◌∙◌}
use Rattle.sc_geom.proofs.Spans.{four_sides, six_sides, no_sides}
use Rattle.sc_geom.proofs.rects.sides_of.Goals as goal

pub returns-then-numbers-eq4-clause-sides : goal.returns-then-numbers-eq4-clause-sides
returns-then-numbers-eq4-clause-sides c =
    c.sides_between.ensures.sides ∙ sym (four_sides c.args.numbers.now c.index-numbers-0.result c.index-numbers-1.result c.index-numbers-2.result c.index-numbers-3.result
    c.if-numbers-eq4.true c.index-numbers-0.is c.index-numbers-1.is c.index-numbers-2.is c.index-numbers-3.is)

pub returns-then-numbers-eq6-clause-sides : goal.returns-then-numbers-eq6-clause-sides
returns-then-numbers-eq6-clause-sides c =
    c.sides_between-then-numbers-eq6.ensures.sides ∙ sym (six_sides c.args.numbers.now c.index-numbers-0-then-numbers-eq6.result c.index-numbers-1-then-numbers-eq6.result c.index-numbers-3-then-numbers-eq6.result c.index-numbers-4.result
    c.if-numbers-eq6.true c.index-numbers-0-then-numbers-eq6.is c.index-numbers-1-then-numbers-eq6.is c.index-numbers-3-then-numbers-eq6.is c.index-numbers-4.is)

pub returns-clause-sides : goal.returns-clause-sides
returns-clause-sides c = sym (no_sides c.args.numbers.now c.if-numbers-eq4.false c.if-numbers-eq6.false)
