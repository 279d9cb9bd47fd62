use Rattle.sc_query.specs.Query.{FilterOf}
use Rattle.sc_query.specs.Reading.{stops, goes_on}
use Rattle.sc_query.specs.Sources.{parameters}
use Rattle.sc_query.proofs.Chain.{filter_read, passed_on}
use Rattle.sc_query.proofs.filter.filter_of.Goals as goal

pub returns-in_err-named : goal.returns-in_err-named
returns-in_err-named c = passed_on (FilterOf (parameters c.args.source)) c.from_residual.result c.in_err-named.field-0.0 c.from_residual.ensures.1 (λ ne. stops _ c.in_err-named.ensures)

pub returns-in_err-crs_given : goal.returns-in_err-crs_given
returns-in_err-crs_given c = passed_on (FilterOf (parameters c.args.source)) c.from_residual-in_err-crs_given.result c.in_err-crs_given.field-0.0 c.from_residual-in_err-crs_given.ensures.1 (λ ne. goes_on _ _ c.in_ok-named.ensures (stops _ c.in_err-crs_given.ensures))

pub returns : goal.returns
returns c = filter_read (parameters c.args.source) c.in_ok-named.named c.filter_given.result c.in_ok-named.ensures c.in_ok-crs_given.ensures c.filter_given.ensures
