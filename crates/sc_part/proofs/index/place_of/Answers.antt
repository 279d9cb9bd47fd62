use Rattle.std.proofs.Common.{arith, refl, rules, slice_index_or}
use Rattle.std.proofs.lemmas.Fn.{always_returns_same}
use Rattle.sc_part.specs.Entry.{ids_of, key_of, key_order}
use Rattle.sc_part.proofs.Changing.{count_is}
use Rattle.sc_part.proofs.Indexing.{found, nowhere}
use Rattle.sc_part.proofs.index.place_of.Goals as goal

pub returns-in-Ok : goal.returns-in-Ok
returns-in-Ok c =
    let ids = ids_of c.args.items.now in
    let size = count_is c.args.items.now in
    let ties = rw c.digest_of-digest.ensures at (c.in-Ok.ensures.position (λ y. key_order (key_of ids y) (record { digest = c.digest_of-digest.result; id = c.args.id.now })) (always_returns_same _ _ _ (λ a r f' k. search rules))) in
    let (within, same) = found ids c.args.index.now c.args.id.now c.in-Ok.at (slice_index_or c.args.index.now c.in-Ok.at (record { digest = 0; place = 0 })) (record { digest = 0; place = 0 }) c.requires c.in-Ok.ensures.bound refl ties in
    (omega (arith, within, size), same)

pub returns-in-Err : goal.returns-in-Err
returns-in-Err c =
    let ids = ids_of c.args.items.now in
    let searched = rw c.digest_of-digest.ensures at (c.in-Err.ensures.position (λ y. key_order (key_of ids y) (record { digest = c.digest_of-digest.result; id = c.args.id.now })) (always_returns_same _ _ _ (λ a r f' k. search rules))) in
    nowhere ids c.args.index.now c.args.id.now c.in-Err.field-0 c.requires searched
