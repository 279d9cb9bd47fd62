use Rattle.std.proofs.Common.{refl}
use Rattle.std.specs.Option.{option_copied}
use Rattle.sc_query.specs.Query.{SelectOf}
use Rattle.sc_query.specs.Reading.{stops, goes_on}
use Rattle.sc_query.specs.Sources.{parameters}
use Rattle.sc_query.proofs.Chain.{passed_on}
use Rattle.sc_query.proofs.query.select_of.Goals as goal

pub returns-in_err-rects : goal.returns-in_err-rects
returns-in_err-rects c = passed_on (SelectOf (option_copied c.args.within) (parameters c.args.source)) c.from_residual.result c.in_err-rects.field-0.0 c.from_residual.ensures.1 (λ ne. stops _ (c.in_err-rects.ensures ne))

pub returns-in_err-time : goal.returns-in_err-time
returns-in_err-time c = passed_on (SelectOf (option_copied c.args.within) (parameters c.args.source)) c.from_residual-in_err-time.result c.in_err-time.field-0.0 c.from_residual-in_err-time.ensures.1 (λ ne. goes_on _ _ c.in_ok-rects.ensures (stops _ (c.in_err-time.ensures ne)))

pub returns-in_err-shape : goal.returns-in_err-shape
returns-in_err-shape c = passed_on (SelectOf (option_copied c.args.within) (parameters c.args.source)) c.from_residual-in_err-shape.result c.in_err-shape.field-0.0 c.from_residual-in_err-shape.ensures.1 (λ ne. goes_on _ _ c.in_ok-rects.ensures (goes_on _ _ c.in_ok-time.ensures (stops _ (c.in_err-shape.ensures ne))))

pub returns-in_err-only_one : goal.returns-in_err-only_one
returns-in_err-only_one c = passed_on (SelectOf (option_copied c.args.within) (parameters c.args.source)) c.from_residual-in_err-only_one.result c.in_err-only_one.field-0.0 c.from_residual-in_err-only_one.ensures.1 (λ ne. goes_on _ _ c.in_ok-rects.ensures (goes_on _ _ c.in_ok-time.ensures (goes_on _ _ c.in_ok-shape.ensures (stops _ c.in_err-only_one.ensures))))

pub returns-in_err-ids : goal.returns-in_err-ids
returns-in_err-ids c = passed_on (SelectOf (option_copied c.args.within) (parameters c.args.source)) c.from_residual-in_err-ids.result c.in_err-ids.field-0.0 c.from_residual-in_err-ids.ensures.1 (λ ne. goes_on _ _ c.in_ok-rects.ensures (goes_on _ _ c.in_ok-time.ensures (goes_on _ _ c.in_ok-shape.ensures (goes_on _ _ c.in_ok-only_one.ensures (stops _ (c.in_err-ids.ensures ne))))))

pub returns-in_err-collections : goal.returns-in_err-collections
returns-in_err-collections c = passed_on (SelectOf (option_copied c.args.within) (parameters c.args.source)) c.from_residual-in_err-collections.result c.in_err-collections.field-0.0 c.from_residual-in_err-collections.ensures.1 (λ ne. goes_on _ _ c.in_ok-rects.ensures (goes_on _ _ c.in_ok-time.ensures (goes_on _ _ c.in_ok-shape.ensures (goes_on _ _ c.in_ok-only_one.ensures (goes_on _ _ c.in_ok-ids.ensures (stops _ (c.in_err-collections.ensures ne)))))))

pub returns-in_err-filter : goal.returns-in_err-filter
returns-in_err-filter c = passed_on (SelectOf (option_copied c.args.within) (parameters c.args.source)) c.from_residual-in_err-filter.result c.in_err-filter.field-0.0 c.from_residual-in_err-filter.ensures.1 (λ ne. goes_on _ _ c.in_ok-rects.ensures (goes_on _ _ c.in_ok-time.ensures (goes_on _ _ c.in_ok-shape.ensures (goes_on _ _ c.in_ok-only_one.ensures (goes_on _ _ c.in_ok-ids.ensures (goes_on _ _ c.in_ok-collections.ensures (stops _ (c.in_err-filter.ensures ne))))))))

pub returns : goal.returns
returns c = goes_on _ _ c.in_ok-rects.ensures (goes_on _ _ c.in_ok-time.ensures (goes_on _ _ c.in_ok-shape.ensures (goes_on _ _ c.in_ok-only_one.ensures (goes_on _ _ c.in_ok-ids.ensures (goes_on _ _ c.in_ok-collections.ensures (goes_on _ _ c.in_ok-filter.ensures (refl)))))))
