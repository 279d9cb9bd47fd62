use Rattle.sc_time.proofs.laws.month_starts.Goals as goal
use Rattle.sc_time.proofs.Periods.{month_start-key, january_start}

pub returns : goal.returns
returns c = record { first_day = λ year month range. month_start-key year month range.0 range.1; january = january_start }
