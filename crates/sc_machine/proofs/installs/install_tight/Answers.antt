use Rattle.std.proofs.Common.{◌≡◌, Some, subst}
use Rattle.sc_history.specs.Part.{bounds_of}
use Rattle.sc_machine.specs.Looks.{told_of}
use Rattle.sc_machine.proofs.Installing.{install_seen}
use Rattle.sc_machine.proofs.installs.install_tight.Goals as goal

pub returns-clause-told : goal.returns-clause-told
returns-clause-told c =
    install_seen c.args.catalogue.now c.install.new.self c.args.tight.now c.in_ok-installed.installed c.tell.result c.requires c.in_ok-installed.ensures.ok c.in_ok-installed.ensures.told
    (subst (λ name. told_of c.in_ok-installed.installed (bounds_of name c.install.new.self.parts) ≡ Some c.tell.result) c.name.ensures c.tell.ensures)
