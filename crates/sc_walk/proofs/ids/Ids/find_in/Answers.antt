use Rattle.std.proofs.Common.{◌∙◌, ◌≢◌, ap, subst, sym, filter, IsPermutation}
use Rattle.sc_item.specs.Feature.{Feature}
use Rattle.sc_eval.specs.Selection.{is_one_of}
use Rattle.sc_page.proofs.Growing.{ascending_from_pairs}
use Rattle.sc_page.proofs.Outcomes.{if_ok_map}
use Rattle.sc_walk.specs.Ids.{AreOnce, looked_up}
use Rattle.sc_walk.proofs.Finding.{all_found}
use Rattle.sc_walk.proofs.ids.Ids.find_in.Goals as goal

pub returns : goal.returns
returns c =
    let ids = c.args.self.now in
    let items = c.args.version.now.items in
    let once = subst AreOnce c.self.view_is c.self.invariant in
    let apart = ascending_from_pairs (λ (a : Feature) (b : Feature). a.id ≢ b.id) items c.requires in
    if_ok_map _ _
    (λ found e. subst (λ l. IsPermutation l (filter (λ (i : Feature). is_one_of ids i.id) items)) (sym (e ∙ ap (λ l. looked_up l items) (c.deref.ensures.value ∙ c.self.view_is)))
    (all_found (λ (i : Feature). i.id) ids items once apart))
    c.find_each.result c.find_each.ensures
