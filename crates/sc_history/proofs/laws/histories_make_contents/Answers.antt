use Rattle.sc_history.proofs.Pasts.{past_content}
use Rattle.sc_history.proofs.Lawful.{change_content, earlier_past}
use Rattle.sc_history.proofs.laws.histories_make_contents.Goals as goal

pub returns : goal.returns
returns c = record { past = past_content; earlier = earlier_past; change = change_content }
