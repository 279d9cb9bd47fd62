use Rattle.std.proofs.Common.{rules, ◌≡◌, sym}
use Rattle.matchit.specs.Rows.{RowsOf}
use Rattle.matchit.specs.Router.{RouteOf}
use Rattle.sc_place.specs.Endpoints.{Each, Serves, Keeps, IsTable, pattern_of}
use Rattle.sc_place.specs.declared.endpoint.Endpoint.{Endpoint}
use Rattle.sc_place.specs.declared.endpoint.Endpoint.TheVariants.{Landing, Conformance, Queryables, Collections, Collection, Items, Item, Search}
use Rattle.sc_place.proofs.Adds.{nothing}
use Rattle.sc_place.proofs.Conflicts.{none_below}
use Rattle.sc_place.proofs.endpoint.table.Goals as goal

then : (old mid new : RowsOf (RouteOf Endpoint)) → Keeps old mid → Keeps mid new → Keeps old new
then old mid new a b t k h = b t k (a t k h)

on : (old new : RowsOf (RouteOf Endpoint)) (s : Endpoint) → Keeps old new → Serves old s → Serves new s
on old new s a h = (h.0, a (pattern_of s) h.0 h.1, h.2)

serves_all : (rows : RowsOf (RouteOf Endpoint)) → Serves rows Landing → Serves rows Conformance → Serves rows Queryables → Serves rows Search → Serves rows Collections → Serves rows Collection → Serves rows Items → Serves rows Item → (s : Endpoint) → Serves rows s
serves_all rows a b d e f g h i Landing = a
serves_all rows a b d e f g h i Conformance = b
serves_all rows a b d e f g h i Queryables = d
serves_all rows a b d e f g h i Search = e
serves_all rows a b d e f g h i Collections = f
serves_all rows a b d e f g h i Collection = g
serves_all rows a b d e f g h i Items = h
serves_all rows a b d e f g h i Item = i

pub returns : goal.returns
returns c =
    let e1 = c.in_ok-add.ensures in
    let e2 = c.in_ok-add-2.ensures in
    let e3 = c.in_ok-add-3.ensures in
    let e4 = c.in_ok-add-4.ensures in
    let e5 = c.in_ok-add-5.ensures in
    let e6 = c.in_ok-add-6.ensures in
    let e7 = c.in_ok-add-7.ensures in
    let e8 = c.in_ok-add-8.ensures in
    let k7 = e8.keeps in
    let k6 = then _ _ _ e7.keeps k7 in
    let k5 = then _ _ _ e6.keeps k6 in
    let k4 = then _ _ _ e5.keeps k5 in
    let k3 = then _ _ _ e4.keeps k4 in
    let k2 = then _ _ _ e3.keeps k3 in
    let k1 = then _ _ _ e2.keeps k2 in
    record { each = e8.each; all = serves_all _ (on _ _ Landing k1 e1.serves) (on _ _ Conformance k2 e2.serves) (on _ _ Queryables k3 e3.serves) (on _ _ Search k4 e4.serves) (on _ _ Collections k5 e5.serves) (on _ _ Collection k6 e6.serves) (on _ _ Items k7 e7.serves) e8.serves }
