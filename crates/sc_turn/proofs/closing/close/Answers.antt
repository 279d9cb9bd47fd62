use Rattle.std.proofs.Common.{◌≡◌, refl, arith, sym, ap, subst, ◌∙◌, map, List}
use Rattle.std.specs.Prelude.{Option, Some, IsSome}
use Rattle.std.specs.Slots.{slots_items}
use Rattle.std.proofs.lemmas.Simd.{map-map}
use mathlib.Core.Option.{some-injective}
use Rattle.sc_turn.specs.declared.pass.Card.{Card}
use Rattle.sc_turn.specs.declared.view.Role.TheVariants.{Closer}
use Rattle.sc_turn.specs.History.{HasNumbers, Closes}
use Rattle.sc_turn.specs.Views.{maker}
use Rattle.sc_turn.specs.Passes.{pair_of, desk_passes, desk_first}
use Rattle.sc_turn.proofs.Cards.{opens_closer, ends}
use Rattle.sc_turn.proofs.closing.close.Goals as goal

pub load_new_seat-seat-requires : goal.load_new_seat-seat-requires
load_new_seat-seat-requires g c = let words = c.args.desk.sized.0 in (omega arith, opens_closer _ _ _ _ _ 0 (maker 0 (g.V.Booked.history (desk_first c.args.desk))))

pub unwrap-value-requires : goal.unwrap-value-requires
unwrap-value-requires g c =
    let C = Card g.row.V.Denot g.row.V-Entry.Denot g.V.Booked in
    let role = ap (λ m. m.0.role) c.take_back-seat.ensures.1 ∙ ap (λ (l : List C). Closer (map pair_of l)) c.into_vec.ensures in
    let all = subst (HasNumbers (desk_passes c.args.desk)) (sym (map-map (λ p. p.0) pair_of c.args.cards)) c.requires.all in
    let e = ends g.V.Booked.history g.V.Booked.by (desk_passes c.args.desk) (g.V.Booked.history (desk_first c.args.desk)) c.take_back-seat.result.id c.take_back-seat.result.me.0 (map pair_of c.args.cards)
    (slots_items c.close_with-closed.result.words) (slots_items c.close_with-closed.result.slots) role all c.close_with-closed.ensures.values.2 in
    subst IsSome (sym (some-injective c.take.result (Some e.0) (sym c.take.ensures.value ∙ e.1))) refl

pub returns : goal.returns
returns g c =
    let C = Card g.row.V.Denot g.row.V-Entry.Denot g.V.Booked in
    let role = ap (λ m. m.0.role) c.take_back-seat.ensures.1 ∙ ap (λ (l : List C). Closer (map pair_of l)) c.into_vec.ensures in
    let all = subst (HasNumbers (desk_passes c.args.desk)) (sym (map-map (λ p. p.0) pair_of c.args.cards)) c.requires.all in
    let e = ends g.V.Booked.history g.V.Booked.by (desk_passes c.args.desk) (g.V.Booked.history (desk_first c.args.desk)) c.take_back-seat.result.id c.take_back-seat.result.me.0 (map pair_of c.args.cards)
    (slots_items c.close_with-closed.result.words) (slots_items c.close_with-closed.result.slots) role all c.close_with-closed.ensures.values.2 in
    let y = e.0 in
    let is : ◌≡◌ {A = Option g.row.V.Denot} (Some y) (Some c.unwrap-value.result) = sym (some-injective c.take.result (Some y) (sym c.take.ensures.value ∙ e.1)) ∙ c.unwrap-value.ensures in
    let same : y ≡ c.unwrap-value.result = (cc) in
    subst (λ v. Closes g.V.Booked.by (g.V.Booked.history (desk_first c.args.desk)) (map pair_of c.args.cards) (g.V.Booked.history v)) same e.2
