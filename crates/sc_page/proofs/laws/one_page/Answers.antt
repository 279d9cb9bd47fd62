use Rattle.sc_page.proofs.Listing as lemmas
use Rattle.sc_page.proofs.laws.one_page.Goals as goal

pub returns : goal.returns
returns c = lemmas.one_page
