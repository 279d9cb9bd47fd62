use Rattle.std.proofs.Common.{refl}
use Rattle.sc_session.proofs.Turning.{told_rise}
use Rattle.sc_serve.specs.Service.{api_of}
use Rattle.sc_serve.proofs.laws.nothing_older_than_told.Goals as goal

pub returns : goal.returns
returns g c base = told_rise (api_of g.D.Desk.may_fail base) (λ number load. refl)
