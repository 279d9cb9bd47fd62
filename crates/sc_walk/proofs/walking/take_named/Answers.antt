use Rattle.std.proofs.Common.{◌++◌, sym, subst}
use Rattle.sc_item.specs.Names.{AreApart}
use Rattle.sc_eval.specs.Selection.{is_one_of}
use Rattle.sc_page.specs.Kept.{HasFound}
use Rattle.sc_page.specs.Search.{shared}
use Rattle.sc_page.proofs.Collected.{found_from_settled}
use Rattle.sc_page.proofs.Reading.{settled_same}
use Rattle.sc_walk.proofs.Naming.{apart_some, asked_among, own_ids}
use Rattle.sc_walk.proofs.walking.take_named.Goals as goal

pub find_in-requires : goal.find_in-requires
find_in-requires c = own_ids c.args.version.now c.requires.kept

pub returns : goal.returns
returns c before apart f =
    let asked = c.args.search.now in
    let ids = c.args.ids.now in
    let items = c.args.version.now.items in
    let found = shared c.in_ok-found.found.items in
    let apart_found = apart_some (λ item. is_one_of ids item.id) before items found c.in_ok-found.ensures apart in
    let taken = subst (λ l. HasFound asked c.add_all.new.self (before ++ shared l)) c.deref.ensures.value (c.in_ok-add_all.ensures before (subst (λ l. AreApart (before ++ shared l)) (sym c.deref.ensures.value) apart_found) f) in
    found_from_settled asked c.settle.new.self (before ++ items)
    (settled_same asked c.settle.new.self (before ++ found) (before ++ items) (asked_among asked ids before items found c.requires.ids c.in_ok-found.ensures) (c.in_ok-settle.ensures (before ++ found) apart_found taken))
