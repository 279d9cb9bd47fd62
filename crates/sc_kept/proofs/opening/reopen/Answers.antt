use Rattle.std.proofs.Common.{ℕ, subst, inl}
use Rattle.std.specs.Prelude.{Option}
use Rattle.sc_kept.specs.Replaying.{IsReplayed}
use Rattle.sc_kept.proofs.opening.reopen.Goals as goal

pub keep-requires-clause-holds : goal.keep-requires-clause-holds
keep-requires-clause-holds g c =
    let opened = c.in-Ok-open_into.ensures.opened in (
      opened.records,
      subst (λ (refused : Option ℕ). IsReplayed c.open_into.new.taker.catalogue.entries refused opened.records) c.in-None.is opened.taken,
      opened.holds,
    )

pub returns-in-Err-clause-bad : goal.returns-in-Err-clause-bad
returns-in-Err-clause-bad g c = λ n is t.
    let stops = c.in-Err.ensures.bad n is in
    inl (record { before = stops.records; place_is = stops.count_is; broken = stops.broken t })
