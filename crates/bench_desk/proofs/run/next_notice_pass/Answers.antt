use Rattle.std.proofs.Common.{◌≡◌}
use Rattle.std.proofs.lemmas.List.Elements.{All-rest}
use Rattle.std.specs.Vec.Iter.{into_iter_items}
use Rattle.sc_notice.specs.Callers.{Caller}
use Rattle.sc_notice.specs.Cards.{queue_of}
use Rattle.bench_desk.proofs.run.next_notice_pass.Goals as goal

pub returns-in-Some : goal.returns-in-Some
returns-in-Some c = All-rest (λ (card : Caller). card.of ≡ queue_of c.args.notices.now) c.in-Some.card (into_iter_items c.next.new.self) _ c.in-Some.ensures.items c.requires
