use Rattle.sc_time.proofs.laws.one_year_and_month.Goals as goal
use Rattle.sc_time.proofs.Periods.{same_year, same_month}

pub returns : goal.returns
returns c = record { year = same_year; month = same_month }
