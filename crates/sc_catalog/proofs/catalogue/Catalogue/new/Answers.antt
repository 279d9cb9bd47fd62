use Rattle.sc_catalog.proofs.Committing.{kept_nothing}
use Rattle.sc_catalog.proofs.catalogue.Catalogue.new.Goals as goal

pub invariant_of-result : goal.invariant_of-result
invariant_of-result c = rw (c.new.ensures.items, c.in_ok-new.ensures, c.in_ok-new-2.ensures) (kept_nothing c.new-4.result c.new-4.ensures)
