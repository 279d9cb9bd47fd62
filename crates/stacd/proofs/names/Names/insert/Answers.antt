use Rattle.stacd.proofs.Naming.{names_more, is_repeated, told}
use Rattle.stacd.proofs.names.Names.insert.Goals as goal

pub returns : goal.returns
returns c items s =
    told _ _ _ _ c.in_ok-new.ensures.added (λ e. names_more _ items _ _ s c.in_ok-name_of.ensures.collection c.in_ok-name_of.ensures.id _ e c.in_ok-new.ensures.updates.0)
    (is_repeated _ items _ _ s c.in_ok-name_of.ensures.collection c.in_ok-name_of.ensures.id)
