use Rattle.sc_time.proofs.laws.same_calendar.Goals as goal
use Rattle.sc_time.proofs.Calendars.{day_number-days_from_civil}

pub returns : goal.returns
returns c = day_number-days_from_civil
