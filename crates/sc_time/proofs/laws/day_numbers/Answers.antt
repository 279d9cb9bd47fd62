use Rattle.sc_time.proofs.laws.day_numbers.Goals as goal
use Rattle.sc_time.proofs.Periods.{epoch_day_zero, next_day, first_of_next_month, first_of_next_year}

pub returns : goal.returns
returns c = record { epoch = epoch_day_zero; days = next_day; months = first_of_next_month; years = first_of_next_year }
