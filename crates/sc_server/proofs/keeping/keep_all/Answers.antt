use Rattle.std.proofs.Common.{◌≡◌, arith, length, map, subst, sym, vec_len}
use Rattle.sc_turn.specs.History.{Closes}
use Rattle.sc_turn.specs.Passes.{desk_id, desk_passes, pair_of, AreNew}
use Rattle.sc_catalog.specs.Entries.{by}
use Rattle.sc_keep.specs.Turns.{kept_api}
use Rattle.sc_server.specs.Keepers.{AreEmployed}
use Rattle.sc_server.proofs.Keepers.{cards_all, cards_desk, kept_served}
use Rattle.sc_server.proofs.keeping.keep_all.Goals as goal

pub close-requires-clause-of : goal.close-requires-clause-of
close-requires-clause-of g c =
    let left = c.serve_and_leave-cards in
    let desk = desk_id c.in-Ok.desk in
    let begun = c.args.kept.catalogue.entries in
    let new : AreNew desk begun (vec_len c.into_vec-nets.result) c.into_vec.result.items = subst (AreNew desk begun (vec_len c.into_vec-nets.result)) (sym c.into_vec.ensures) (subst (λ n. AreNew desk begun n c.in-Ok.cards) c.len-count.ensures c.in-Ok.ensures.cards) in
    cards_desk g.L.In.Source.left g.L.In.Source.ended g.L.In.Source.faults g.L.Out.Sink.written g.L.Out.Sink.faults (kept_api g.D.Disk.faults c.args.base.now) g.L.Listen.left g.L.Listen.handed_back g.L.Listen.faults
    desk begun c.args.most c.into_vec-nets.result.items left.result.1 c.employ-keepers.result.items left.result.0 left.result.2 (c.employ-keepers.ensures.employed begun new) left.ensures

pub close-requires-clause-all : goal.close-requires-clause-all
close-requires-clause-all g c =
    let left = c.serve_and_leave-cards in
    let desk = desk_id c.in-Ok.desk in
    let begun = c.args.kept.catalogue.entries in
    let new : AreNew desk begun (vec_len c.into_vec-nets.result) c.into_vec.result.items = subst (AreNew desk begun (vec_len c.into_vec-nets.result)) (sym c.into_vec.ensures) (subst (λ n. AreNew desk begun n c.in-Ok.cards) c.len-count.ensures c.in-Ok.ensures.cards) in
    let many : desk_passes c.in-Ok.desk ≡ length c.into_vec-nets.result.items = omega (arith, c.in-Ok.ensures.desk.0, c.len-count.ensures) in
    cards_all g.L.In.Source.left g.L.In.Source.ended g.L.In.Source.faults g.L.Out.Sink.written g.L.Out.Sink.faults (kept_api g.D.Disk.faults c.args.base.now) g.L.Listen.left g.L.Listen.handed_back g.L.Listen.faults
    desk begun c.args.most c.into_vec-nets.result.items left.result.1 c.employ-keepers.result.items left.result.0 left.result.2 (c.employ-keepers.ensures.employed begun new) left.ensures
    (desk_passes c.in-Ok.desk) many

pub returns : goal.returns
returns g c =
    let left = c.serve_and_leave-cards in
    let desk = desk_id c.in-Ok.desk in
    let begun = c.args.kept.catalogue.entries in
    let new : AreNew desk begun (vec_len c.into_vec-nets.result) c.into_vec.result.items = subst (AreNew desk begun (vec_len c.into_vec-nets.result)) (sym c.into_vec.ensures) (subst (λ n. AreNew desk begun n c.in-Ok.cards) c.len-count.ensures c.in-Ok.ensures.cards) in
    let employed = subst (λ nets. AreEmployed desk begun nets c.employ-keepers.result.items) c.into_vec-nets.ensures (c.employ-keepers.ensures.employed begun new) in
    let closes = subst (λ kept. Closes by kept.catalogue.entries (map pair_of left.result.0) c.close.result.catalogue.entries) c.in-Ok.ensures.desk.1 c.close.ensures in
    kept_served g.L.In.Source.left g.L.In.Source.ended g.L.In.Source.faults g.L.Out.Sink.written g.L.Out.Sink.faults (kept_api g.D.Disk.faults c.args.base.now) g.L.Listen.left g.L.Listen.handed_back g.L.Listen.faults
    desk begun c.args.most c.args.nets left.result.1 c.employ-keepers.result.items left.result.0 left.result.2 employed left.ensures
    c.close.result.catalogue.entries closes
