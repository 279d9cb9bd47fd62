use Rattle.std.proofs.Common.{List, ℕ, Ok, Err, subst}
use Rattle.sc_token.specs.Reading as tokens
use Rattle.sc_query.specs.Order.{TokenReads, place, no_place}
use Rattle.sc_query.proofs.Chain.{judged}
use Rattle.sc_query.proofs.Fits.{fit_count}
use Rattle.sc_query.proofs.order.place_in.Goals as goal

pub returns-in-Ok-clause-place : goal.returns-in-Ok-clause-place
returns-in-Ok-clause-place c = λ given e. place c.args.text.now _ e (subst (λ (t : List ℕ). tokens.Answers c.args.sort.now t (Ok c.in-Ok.place)) c.bytes.ensures.bytes c.in-Ok.ensures)

pub returns-in-Ok-clause-fits : goal.returns-in-Ok-clause-fits
returns-in-Ok-clause-fits c = fit_count _ _ c.in-Ok.ensures.fits.values

pub returns-in-Err-clause-place : goal.returns-in-Err-clause-place
returns-in-Err-clause-place c = λ given e.
    let read = subst (λ (t : List ℕ). tokens.Answers c.args.sort.now t (Err c.in-Err.fault)) c.bytes.ensures.bytes c.in-Err.ensures in
    judged (TokenReads c.args.sort.now given) _ _ c.no_place.ensures.known c.no_place.ensures.bad (λ known. no_place c.args.text.now c.in-Err.fault e read known)
