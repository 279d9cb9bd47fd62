use Rattle.std.proofs.Common.{◌≡◌, ◌∙◌, ◌+◌, ℕ, length, length-append, ◌++◌, ◌∷◌, [], ap, ap₂, arith, map, subst}
use Rattle.std.specs.Vec.Iter.{into_iter_items}
use Rattle.sc_turn.specs.Passes.{desk_id, IsNew}
use Rattle.sc_visit.specs.Visits.{visitor_of}
use Rattle.sc_server.specs.declared.keeper.Keeper.{Keeper}
use Rattle.sc_server.proofs.Keepers.{card_left, next_card, numbered_step}
use Rattle.sc_server.proofs.Lists.{count_step, map_more, split_step}
use Rattle.sc_server.proofs.keeper.employ.Goals as goal

pub bind-requires : goal.bind-requires
bind-requires g c =
    let now = c.loop-net in
    let dealt = now.invariant.dealt in
    let given = c.requires.cards in
    (next_card (desk_id c.args.desk.now) given.0 _ c.args.cards.items dealt.0 (into_iter_items now.cards) (into_iter_items c.next-in-loop-net.new.self) c.in-Some-next.card given.1 dealt.1 c.in-Some-next.ensures.items).of

pub loop-net-preserved : goal.loop-net-preserved
loop-net-preserved g c =
    let now = c.loop-net in
    let inv = now.invariant in
    let dealt = inv.dealt in
    let desk = desk_id c.args.desk.now in
    let net = c.in-Some.net in
    let card = c.in-Some-next.card in
    let rest = into_iter_items c.next-in-loop-net.new.self in
    let keeper = c.new.result in
    let many : length dealt.0 ≡ length now.keepers.items = omega (arith, inv.count, dealt.2) in
    record {
      split = split_step c.args.nets.items now.yielded _ (into_iter_items now.net-iterator) net inv.split c.in-Some.ensures.steps.0;
      dealt = (
        dealt.0 ++ card ∷ [],
        split_step c.args.cards.items dealt.0 rest (into_iter_items now.cards) card dealt.1 c.in-Some-next.ensures.items,
        count_step now.yielded net (length dealt.0) _ (length-append dealt.0 (card ∷ [])) dealt.2,
      );
      nets_are = ap (map (λ (w : Keeper _ _). w.net)) c.push_reserved.ensures.items ∙ map_more (λ (w : Keeper _ _). w.net) now.keepers.items keeper
          ∙ ap₂ (λ l x. l ++ x ∷ []) inv.nets_are (ap (λ (w : Keeper _ _). w.net) c.new.ensures);
      numbered = λ begun new.
          let is = next_card desk begun _ c.args.cards.items dealt.0 (into_iter_items now.cards) rest card new dealt.1 c.in-Some-next.ensures.items in
          numbered_step desk begun card now.keepers.items c.push_reserved.new.self.items keeper (visitor_of c.bind.result)
          (subst (λ (n : ℕ). IsNew desk (n + 1) begun card) many is) (inv.numbered begun new) c.push_reserved.ensures.items (ap (λ (w : Keeper _ _). w.pass) c.new.ensures)
          c.bind.ensures.desk c.bind.ensures.number c.bind.ensures.start c.bind.ensures.seen c.bind.ensures.visits;
      count = count_step now.yielded net _ _ c.push_reserved.ensures.len inv.count;
      room = c.push_reserved.ensures.capacity ∙ inv.room;
    }

pub unreachable-requires : goal.unreachable-requires
unreachable-requires g c =
    let now = c.loop-net in
    let inv = now.invariant in
    let many : length c.args.cards.items ≡ length c.args.nets.items = c.requires.cards.1.count ∙ c.args.nets.ok.0 in
    let some = card_left c.args.cards.items inv.dealt.0 (into_iter_items now.cards) c.args.nets.items now.yielded (into_iter_items now.net-iterator) (into_iter_items c.next.new.self) c.in-Some.net
    many inv.dealt.1 inv.dealt.2 inv.split c.in-Some.ensures.steps.0 in
    let none = c.in-None-next.ensures.cases.0 in
    let are = now.cards.rest.ok.0 in
    absurd (omega (arith, some, none, are))
