use Rattle.sc_history.proofs.Answering.{bad_answered, made_answered, others_answered, plain_answer}
use Rattle.sc_history.proofs.laws.accepted_or_refused.Goals as goal

pub returns : goal.returns
returns c = record { others = others_answered; made = made_answered; bad = bad_answered; plain = plain_answer }
