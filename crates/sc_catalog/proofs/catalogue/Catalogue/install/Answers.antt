use Rattle.std.proofs.Common.{refl}
use Rattle.sc_catalog.proofs.Hulls.{entries_tight, tight_told}
use Rattle.sc_catalog.proofs.Views.{answer_told, bounds_told, install_keeps, install_narrows}
use Rattle.sc_catalog.proofs.catalogue.Catalogue.install.Goals as goal

pub invariant_of-self : goal.invariant_of-self
invariant_of-self c =
    let i = c.self.inside in
    let t = c.args.tight.now in
    let tight = tight_told i.history.items t (rw (← c.self.view_is) at c.requires) in
    install_keeps i.history.items i.bytes i.collections i.parts i.index c.self.invariant t.name t.stamp t.bounds tight c.in_ok-self-inside.field-0 c.in_ok-self-inside.ensures

pub returns-clause-ok : goal.returns-clause-ok
returns-clause-ok c =
    let i = c.self.inside in
    let t = c.args.tight.now in
    let tight = tight_told i.history.items t (rw (← c.self.view_is) at c.requires) in
    let new = c.in_ok-self-inside.field-0 in
    rw (← c.self.view_is) (record {
      entries_are = refl;
      collections_are = refl;
      parts_are = c.in_ok-self-inside.ensures;
      bounds_are = bounds_told i.history.items i.bytes i.collections i.parts i.index c.self.invariant t.name t.stamp t.bounds new c.in_ok-self-inside.ensures;
      narrower = install_narrows i.history.items i.bytes i.collections i.parts i.index c.self.invariant t.name t.stamp t.bounds tight new c.in_ok-self-inside.ensures;
    })

pub returns-clause-hulls : goal.returns-clause-hulls
returns-clause-hulls c = rw (← c.self.view_is) (λ hull. entries_tight _ _ hull refl)

pub returns-clause-told : goal.returns-clause-told
returns-clause-told c =
    let i = c.self.inside in
    rw (← c.self.view_is) (answer_told i.history.items i.bytes i.collections i.parts i.index c.self.invariant c.args.tight.now c.install_answer-answer.result c.install_answer-answer.ensures)
