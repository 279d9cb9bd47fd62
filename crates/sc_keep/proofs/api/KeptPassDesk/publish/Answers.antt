use Rattle.std.proofs.Common.{rules, ◌≡◌, Ok, refl, sym, subst}
use Rattle.sc_kept.specs.declared.fault.KeptFault.TheVariants as faults
use Rattle.sc_serve.specs.declared.desk.Tried.TheVariants.{Taken, NotStored}
use Rattle.sc_serve.specs.Desks.{TriesLoad}
use Rattle.sc_keep.specs.Turns.{IsNotStored, MayFail}
use Rattle.sc_keep.proofs.api.KeptPassDesk.publish.Goals as goal

pub returns-in-Ok : goal.returns-in-Ok
returns-in-Ok g c begun old stands =
    let after = c.kept_publish.new.pass in
    let e = c.in-Ok.ensures in
    (after, refl, subst (λ v. TriesLoad (MayFail g.D.Disk.faults) c.args.load (Ok (Taken c.in-Ok.published.revision)) v after) (sym stands) (record { turn = e.turn; revision_is = e.taken.revision_is }))

pub returns : goal.returns
returns g c begun old stands =
    let may = MayFail g.D.Disk.faults in
    let after = c.kept_publish.new.pass in
    let e = c.in-Err.ensures in
    let fault : c.in-Err.field-0.fault ≡ faults.NotStored c.in-NotStored.published c.in-NotStored.stored = search rules in
    let u = subst (λ f. IsNotStored may c.args.load f c.args.self.now after) fault e.0 in (
      after,
      refl,
      subst (λ v. TriesLoad may c.args.load (Ok (NotStored c.in-Err.field-0.revision c.in-NotStored.stored)) v after) (sym stands)
          (record { may = u.may; takes = record { turn = u.adds.turn; revision_is = e.1 }; fewer = u.fewer }),
    )
