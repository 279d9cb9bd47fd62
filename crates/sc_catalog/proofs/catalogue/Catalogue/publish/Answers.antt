use Rattle.std.proofs.Common.{rules, ◌≡◌, ◌+◌, ◌∙◌, ◌++◌, ◌∷◌, [], List, length, ap}
use Rattle.std.proofs.lemmas.Result.{err_from_is_err_and}
use Rattle.sc_index.specs.Found.{Indexes}
use Rattle.sc_history.specs.History.{replay}
use Rattle.sc_catalog.specs.declared.entry.Entry.{Entry}
use Rattle.sc_catalog.specs.Holdings.{Holdings}
use Rattle.sc_catalog.proofs.Committing.{kept_next, next_own, published_is}
use Rattle.sc_catalog.proofs.Hulls.{tight_on}
use Rattle.sc_catalog.proofs.catalogue.Catalogue.publish.Goals as goal

pub returns-in_err-next-clause-fault : goal.returns-in_err-next-clause-fault
returns-in_err-next-clause-fault c =
    let size : c.len.result ≡ length c.self.inside.history.items = search rules in
    let p = err_from_is_err_and c.from_residual.result c.from_residual.ensures.1 in
    let kept = c.self.invariant in
    rw (p.1, p.2, ← c.self.view_is) (record { past = kept.past; told = kept.told; refused = c.in_err-next.ensures kept.past (rw size kept.reflects) })

pub index_load-requires-clause-own : goal.index_load-requires-clause-own
index_load-requires-clause-own c =
    let size : c.len.result ≡ length c.self.inside.history.items = search rules in
    let n = c.in_ok-next.ensures c.self.invariant.past (rw size c.self.invariant.reflects) in
    next_own c.self.invariant.past c.args.load c.self.inside.collections c.self.inside.parts c.in_ok-next.next n

pub invariant_of-self-2 : goal.invariant_of-self-2
invariant_of-self-2 c =
    let size : c.len.result ≡ length c.self.inside.history.items = search rules in
    let past = c.self.invariant.past in
    let n = c.in_ok-next.ensures past (rw size c.self.invariant.reflects) in
    let indexes : Indexes (replay past).items c.reserve-2.new.self = record { each = λ collection id. c.in_ok-reserve-2.ensures.found collection id ∙ c.self.invariant.reflects.indexes.each collection id } in
    let ix = c.index_load.ensures (replay past) n.accepted.allowed.puts indexes in
    let items = c.in_ok-push.ensures.items ∙ ap (λ (l : List Entry). l ++ record { by = c.args.by; load = c.args.load } ∷ []) c.in_ok-reserve.ensures.items in
    rw items (kept_next c.self.inside.history.items c.args.by c.args.load c.self.inside.bytes c.self.inside.collections c.self.inside.parts c.self.inside.index c.index_load.new.index c.in_ok-next.next c.self.invariant n ix)

pub returns-clause-ok : goal.returns-clause-ok
returns-clause-ok c =
    let i = c.self.inside in
    let kept = c.self.invariant in
    let size : c.len.result ≡ length i.history.items = search rules in
    let n = c.in_ok-next.ensures kept.past (rw size kept.reflects) in
    let items = c.in_ok-push.ensures.items ∙ ap (λ (l : List Entry). l ++ record { by = c.args.by; load = c.args.load } ∷ []) c.in_ok-reserve.ensures.items in
    rw (items, ← c.self.view_is)
    (published_is kept.past c.args.by c.args.load (record { entries = i.history.items; collections = i.collections; parts = i.parts }) (length i.history.items + 1) i.bytes i.index c.in_ok-next.next _ kept.told kept.reflects n (ap (λ k. k + 1) size) c.of.ensures)

pub returns-clause-hulls : goal.returns-clause-hulls
returns-clause-hulls c =
    let items = c.in_ok-push.ensures.items ∙ ap (λ (l : List Entry). l ++ record { by = c.args.by; load = c.args.load } ∷ []) c.in_ok-reserve.ensures.items in
    rw (items, ← c.self.view_is) (λ hull. tight_on c.self.inside.history.items (record { by = c.args.by; load = c.args.load } ∷ []) hull)
