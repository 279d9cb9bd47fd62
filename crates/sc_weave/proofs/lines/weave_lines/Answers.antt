use Rattle.std.proofs.Common.{◌++◌, arith}
use Rattle.sc_outside.specs.Lines.{lines_of}
use Rattle.sc_weave.proofs.Taking.{midway_more, midway_stop}
use Rattle.sc_weave.proofs.lines.weave_lines.Goals as goal

pub returns-in-Err-clause-stops : goal.returns-in-Err-clause-stops
returns-in-Err-clause-stops g c = λ start lines h.
    let m = c.weaving.invariant.midway start lines h in
    midway_stop start _ _ lines _ _ _ c.in-Some.after.now m c.in-Some.ensures.0 _ _ (c.in-Err.ensures.stops start (lines ++ m.before) (lines_of c.in-Some.after.now) m.told)

pub weaving-preserved : goal.weaving-preserved
weaving-preserved g c = record {
  midway = λ start lines h.
      let m = c.weaving.invariant.midway start lines h in
      midway_more start _ _ lines _ _ _ c.in-Some.after.now m c.in-Some.ensures.0 _ _ (c.in-Ok.ensures.stops start (lines ++ m.before) (lines_of c.in-Some.after.now) m.told);
  later = omega (arith, c.weaving.invariant.later, c.weave_next.ensures.later);
}
