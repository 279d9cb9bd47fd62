use Rattle.sc_item.proofs.PatchGood.{good_result}
use Rattle.sc_item.proofs.patch.merge_patch.Goals as goal

pub returns-clause-good : goal.returns-clause-good
returns-clause-good c = good_result _ _ _ c.patched.ensures
