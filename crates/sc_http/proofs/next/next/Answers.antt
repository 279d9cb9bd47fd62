use Rattle.sc_http.proofs.Steps.{first_after, ends_after, rest_of}
use Rattle.sc_http.proofs.next.next.Goals as goal

pub returns-in-Ok-clause-next : goal.returns-in-Ok-clause-next
returns-in-Ok-clause-next g c =
    first_after _ _ c.find_head.new.held.items _ c.args.at c.in-Ok.used _ _ _ _ _ _ (rest_of _ _ c.args.at c.deref.ensures.value) c.in-Ok-Some.ensures.reads c.in-Ok.ensures.ok

pub returns-in-Err-finish-clause-next : goal.returns-in-Err-finish-clause-next
returns-in-Err-finish-clause-next g c =
    ends_after _ _ _ _ _ _ _ _ _ _ _ _ _ _ (rest_of _ _ c.args.at c.deref.ensures.value) c.find_head.ensures.later c.in-Ok-Some.ensures.reads c.in-Err-finish.ensures.err
