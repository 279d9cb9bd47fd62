use Rattle.sc_time.proofs.laws.all_instants.Goals as goal
use Rattle.sc_time.proofs.Periods.{first_year, end_of_years}

pub returns : goal.returns
returns c = record { first = first_year; end = end_of_years }
