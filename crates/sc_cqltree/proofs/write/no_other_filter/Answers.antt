use Rattle.sc_cqltree.proofs.write.no_other_filter.Goals as goal

pub returns : goal.returns
returns c = λ other h. c.one_answer.ensures.filter c.args.tree.now other c.args.filter.now h c.requires
