use Rattle.std.proofs.Common.{refl}
use Rattle.sc_session.proofs.Turning.{handled_own}
use Rattle.sc_serve.specs.Service.{api_of}
use Rattle.sc_serve.proofs.laws.loads_stand.Goals as goal

pub returns : goal.returns
returns g c base = handled_own (api_of g.D.Desk.may_fail base) (λ number load. refl)
