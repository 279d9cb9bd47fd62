use Rattle.std.proofs.Common.{Ok, ap}
use Rattle.std.specs.Option.{option_copied}
use Rattle.sc_query.specs.Query.{QueryOf}
use Rattle.sc_query.specs.Reading.{stops, goes_on}
use Rattle.sc_query.specs.Sources.{parameters}
use Rattle.sc_query.proofs.Chain.{passed_on}
use Rattle.sc_query.proofs.query.query_of.Goals as goal

pub returns-in_err-limit : goal.returns-in_err-limit
returns-in_err-limit c = passed_on (QueryOf (option_copied c.args.within) (parameters c.args.source)) c.from_residual.result c.in_err-limit.field-0.0 c.from_residual.ensures.1 (λ ne. stops _ c.in_err-limit.ensures.limit)

pub returns-in_err-select : goal.returns-in_err-select
returns-in_err-select c = passed_on (QueryOf (option_copied c.args.within) (parameters c.args.source)) c.from_residual-in_err-select.result c.in_err-select.field-0.0 c.from_residual-in_err-select.ensures.1 (λ ne. goes_on _ _ c.in_ok-limit.ensures.limit (stops _ (c.in_err-select.ensures ne)))

pub returns-in_err-sort : goal.returns-in_err-sort
returns-in_err-sort c = passed_on (QueryOf (option_copied c.args.within) (parameters c.args.source)) c.from_residual-in_err-sort.result c.in_err-sort.field-0.0 c.from_residual-in_err-sort.ensures.1 (λ ne. goes_on _ _ c.in_ok-limit.ensures.limit (goes_on _ _ c.in_ok-select.ensures (stops _ (c.in_err-sort.ensures ne))))

pub returns-in_err-after : goal.returns-in_err-after
returns-in_err-after c = passed_on (QueryOf (option_copied c.args.within) (parameters c.args.source)) c.from_residual-in_err-after.result c.in_err-after.field-0.0 c.from_residual-in_err-after.ensures.1 (λ ne. goes_on _ _ c.in_ok-limit.ensures.limit (goes_on _ _ c.in_ok-select.ensures (goes_on _ _ c.in_ok-sort.ensures (stops _ (c.in_err-after.ensures.place ne)))))

pub returns : goal.returns
returns c = goes_on _ _ c.in_ok-limit.ensures.limit (goes_on _ _ c.in_ok-select.ensures (goes_on _ _ c.in_ok-sort.ensures (goes_on _ _ c.in_ok-after.ensures.place (ap Ok c.new.ensures))))
