use Rattle.std.proofs.Common.{Ok, Err, refl, sym, subst}
use Rattle.sc_serve.specs.declared.desk.Tried.TheVariants.{Taken}
use Rattle.sc_serve.specs.Desks.{TriesLoad}
use Rattle.sc_serve.specs.Notices.{AreTold}
use Rattle.sc_serve.proofs.Notices.{tells_load, tells_looked, tells_then}
use Rattle.sc_serve.proofs.notifying.NotifyingPassDesk.publish.Goals as goal

pub returns-in-Err : goal.returns-in-Err
returns-in-Err g c begun old stands =
    let now = c.args.self.now in
    let after = c.publish.new.pass in
    let e = c.in-Err.ensures in (
      after,
      (stands.0, stands.1, refl, tells_then _ _ _ _ _ _ stands.3 (tells_looked now.pass.now after now.notices.now e.turn)),
      subst (λ v. TriesLoad ⊥ c.args.load (Err c.in-Err.refused) v after) (sym stands.2) (record { turn = e.turn; is = e.fault; revision_is = e.revision }),
    )

pub returns-in-Ok : goal.returns-in-Ok
returns-in-Ok g c begun old stands =
    let now = c.args.self.now in
    let after = c.publish.new.pass in
    let e = c.in-Ok.ensures in
    let told = subst (λ l. AreTold l now.notices.now c.tell_all.new.notices) c.into_vec.ensures c.tell_all.ensures in (
      after,
      (
        stands.0,
        stands.1,
        refl,
        tells_then _ _ _ _ _ _ stands.3 (tells_load c.args.load c.in-Ok.published now.pass.now after now.notices.now c.tell_all.new.notices e.turn e.ok told),
      ),
      subst (λ v. TriesLoad ⊥ c.args.load (Ok (Taken c.in-Ok.published.revision)) v after) (sym stands.2) (record { turn = e.took; revision_is = e.ok.revision_is }),
    )
