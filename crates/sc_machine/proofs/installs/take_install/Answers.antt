use Rattle.sc_machine.proofs.Seen.{each_ok}
use Rattle.sc_machine.proofs.Installing.{install_named, install_nowhere}
use Rattle.sc_machine.proofs.installs.take_install.Goals as goal

pub returns-in-None-clause-told : goal.returns-in-None-clause-told
returns-in-None-clause-told c =
    each_ok _ _ (λ outcome told snaps. install_nowhere c.args.catalogue.now snaps c.args.tickets.now c.args.ticket outcome c.in-None.ensures.value told) c.no_such_name.result c.no_such_name.ensures

pub returns-in-Some-clause-told : goal.returns-in-Some-clause-told
returns-in-Some-clause-told c =
    each_ok _ _ (λ outcome is snaps. install_named c.args.catalogue.now c.install_tight.new.catalogue snaps c.args.tickets.now c.args.ticket c.in-Some.tight.now outcome c.in-Some.ensures.value (is snaps c.args.tickets.now)) c.install_tight.result c.install_tight.ensures.told
