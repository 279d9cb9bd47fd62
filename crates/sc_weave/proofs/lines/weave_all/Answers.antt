use Rattle.sc_weave.proofs.lines.weave_all.Goals as goal

pub returns-in-Ok-write_out-clause-stops : goal.returns-in-Ok-write_out-clause-stops
returns-in-Ok-write_out-clause-stops g c = λ start lines h. c.in-Ok-write_out.ensures.ok start _ (c.in-Ok.ensures.stops start lines h)
