use Rattle.std.proofs.Common.{◌≡◌}
use Rattle.std.proofs.lemmas.List.Elements.{All-rest}
use Rattle.std.specs.Vec.Iter.{into_iter_items}
use Rattle.sc_turn.specs.Passes.{card_desk, desk_id}
use Rattle.server_example.proofs.seats.next_pass.Goals as goal

pub returns : goal.returns
returns c = All-rest (λ card. card_desk card ≡ desk_id c.args.desk.now) c.in-Some.card (into_iter_items c.next.new.self) _ c.in-Some.ensures.items c.requires
