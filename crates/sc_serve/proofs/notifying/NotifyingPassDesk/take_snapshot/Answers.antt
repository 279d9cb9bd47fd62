use Rattle.std.proofs.Common.{refl, sym, subst}
use Rattle.sc_serve.specs.Desks.{TakesSnapshot}
use Rattle.sc_serve.proofs.Notices.{tells_looked, tells_then}
use Rattle.sc_serve.proofs.notifying.NotifyingPassDesk.take_snapshot.Goals as goal

pub returns : goal.returns
returns g c begun old stands =
    let now = c.args.self.now in
    let after = c.take_snapshot-snapshot.new.pass in
    let turn = c.take_snapshot-snapshot.ensures.turn in (
      after,
      (stands.0, stands.1, refl, tells_then _ _ _ _ _ _ stands.3 (tells_looked now.pass.now after now.notices.now turn)),
      subst (λ v. TakesSnapshot c.take_snapshot-snapshot.result v after) (sym stands.2) (record { turn = turn; is = c.take_snapshot-snapshot.ensures.ok }),
    )
