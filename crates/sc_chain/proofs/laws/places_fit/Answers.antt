use Rattle.sc_chain.proofs.Fitting.{place_fits}
use Rattle.sc_chain.proofs.laws.places_fit.Goals as goal

pub returns : goal.returns
returns c = place_fits
