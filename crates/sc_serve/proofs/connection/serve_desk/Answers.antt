use Rattle.sc_serve.proofs.connection.serve_desk.Goals as goal

pub returns-clause-session : goal.returns-clause-session
returns-clause-session g c old stands = c.serve_counting.ensures c.args.desk.now old stands

pub returns-clause-chained : goal.returns-clause-chained
returns-clause-chained g c begun old stands = c.serve_counting.ensures begun old stands
