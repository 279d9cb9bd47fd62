use Rattle.std.proofs.Common.{◌∙◌, sym}
use Rattle.std.specs.Arc.{arc_value}
use Rattle.sc_catalog.proofs.Patching.{not_missing, patch_come}
use Rattle.sc_catalog.proofs.come.patched.Goals as goal

pub returns-in-Some : goal.returns-in-Some
returns-in-Some c = λ items is has. patch_come items c.args.collection.now c.args.id.now c.args.patch.now (arc_value c.in-Some.old.now) c.patch_one.result (sym (c.in-Some.ensures ∙ is.each c.args.collection.now c.args.id.now)) (rw c.deref.ensures at c.patch_one.ensures)

pub returns-in_ok-try_clone-in-None : goal.returns-in_ok-try_clone-in-None
returns-in_ok-try_clone-in-None c = λ items is has. not_missing items c.args.collection.now c.args.id.now has (c.in-None.ensures ∙ is.each c.args.collection.now c.args.id.now)
