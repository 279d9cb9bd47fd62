use Rattle.std.proofs.Common.{◌≡◌, ◌∙◌, ap, length, subst, sym}
use Rattle.sc_turn.specs.Passes.{desk_id, desk_first, desk_passes}
use Rattle.sc_notice.specs.Cards.{queue_of}
use Rattle.sc_serve.specs.Service.{api}
use Rattle.sc_server.specs.Workers.{HasRun}
use Rattle.sc_server.proofs.Workers.{run_callers, run_desk, run_numbers, run_served}
use Rattle.sc_server.proofs.all.serve_all.Goals as goal

pub close_notices-requires : goal.close_notices-requires
close_notices-requires g c =
    let made = c.in_ok-made.made in
    let left = c.run_all-left.result in
    run_callers g.L.In.Source.left g.L.In.Source.ended g.L.In.Source.faults g.L.Out.Sink.written g.L.Out.Sink.faults (api c.args.base.now) g.L.Listen.left g.L.Listen.handed_back g.L.Listen.faults
    c.args.most c.args.tighteners c.seat_all-seats.result.items c.into_vec-nets.result.items left.nets left.listen_failed left.cards left.notice_cards c.into_vec-2.result.items
    (desk_id c.in-Ok.desk) (queue_of made.0) c.run_all-left.ensures c.seat_all-seats.ensures
    _ made.1 c.into_vec-2.ensures c.in_ok-made.ensures.cards

pub close-requires-clause-of : goal.close-requires-clause-of
close-requires-clause-of g c =
    let made = c.in_ok-made.made in
    let left = c.run_all-left.result in
    run_desk g.L.In.Source.left g.L.In.Source.ended g.L.In.Source.faults g.L.Out.Sink.written g.L.Out.Sink.faults (api c.args.base.now) g.L.Listen.left g.L.Listen.handed_back g.L.Listen.faults
    c.args.most c.args.tighteners c.seat_all-seats.result.items c.into_vec-nets.result.items left.nets left.listen_failed left.cards left.notice_cards c.into_vec-2.result.items
    (desk_id c.in-Ok.desk) (queue_of made.0) c.run_all-left.ensures c.seat_all-seats.ensures

pub close-requires-clause-all : goal.close-requires-clause-all
close-requires-clause-all g c =
    let made = c.in_ok-made.made in
    let left = c.run_all-left.result in
    let dealt : length c.into_vec-2.result.items ≡ desk_passes c.in-Ok.desk = ap length c.into_vec-2.ensures ∙ c.in_ok-made.ensures.cards.count_is ∙ sym c.in-Ok.ensures.desk.0 in
    run_numbers g.L.In.Source.left g.L.In.Source.ended g.L.In.Source.faults g.L.Out.Sink.written g.L.Out.Sink.faults (api c.args.base.now) g.L.Listen.left g.L.Listen.handed_back g.L.Listen.faults
    c.args.most c.args.tighteners c.seat_all-seats.result.items c.into_vec-nets.result.items left.nets left.listen_failed left.cards left.notice_cards c.into_vec-2.result.items
    (desk_id c.in-Ok.desk) (queue_of made.0) c.run_all-left.ensures c.seat_all-seats.ensures
    (desk_passes c.in-Ok.desk) (sym dealt)

pub returns : goal.returns
returns g c =
    let made = c.in_ok-made.made in
    let left = c.run_all-left.result in
    let run = subst (λ nets. HasRun g.L.In.Source.left g.L.In.Source.ended g.L.In.Source.faults g.L.Out.Sink.written g.L.Out.Sink.faults (api c.args.base.now) g.L.Listen.left g.L.Listen.handed_back g.L.Listen.faults
    c.args.most c.args.tighteners c.seat_all-seats.result.items nets left.nets left.listen_failed left.cards left.notice_cards) c.into_vec-nets.ensures c.run_all-left.ensures in
    run_served g.L.In.Source.left g.L.In.Source.ended g.L.In.Source.faults g.L.Out.Sink.written g.L.Out.Sink.faults (api c.args.base.now) g.L.Listen.left g.L.Listen.handed_back g.L.Listen.faults
    c.args.most c.args.tighteners c.seat_all-seats.result.items c.args.nets left.nets left.listen_failed left.cards left.notice_cards c.into_vec-2.result.items
    (desk_id c.in-Ok.desk) (queue_of made.0) run c.seat_all-seats.ensures
    _ made.1 (desk_first c.in-Ok.desk).entries c.close.result.entries c.close_notices.result c.into_vec-2.ensures c.in_ok-made.ensures.cards
    (ap (λ catalogue. catalogue.entries) (c.in-Ok.ensures.desk.1 ∙ c.in_ok-catalogue.ensures)) c.close.ensures c.close_notices.ensures
