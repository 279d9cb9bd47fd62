use Rattle.std.proofs.Common.{◌≡◌, List, [], ◌∷◌, length, refl, sym, ap, ◌∙◌, subst, arith}
use Rattle.std.specs.declared.alloc.Global.{Global}
use Rattle.std.specs.declared.sync.Arc.{Arc}
use Rattle.sc_item.specs.Feature.{Feature}
use Rattle.sc_page.specs.Leading.{last_of_full, starts_after}
use Rattle.sc_page.specs.Search.{shared}
use Rattle.sc_page.proofs.Reading.{ReadBack, read_all, read_back, read_one}
use Rattle.sc_page.proofs.first.FirstItems.add_backwards.Goals as goal

pub returns-then-is_too_late : goal.returns-then-is_too_late
returns-then-is_too_late c before apart f =
    let self = c.reading.self in
    let late = ap (starts_after (last_of_full self.most (shared self.first.items))) (sym c.deref.ensures) ∙ sym c.is_too_late.ensures ∙ c.if-is_too_late.true in
    read_back c.args.search.now c.args.items.now c.args.self.now c.reading.rest.now c.in-Some.others.now c.in-Some.item.now c.in-Some.ensures.cases.0 self c.reading.invariant c.requires.latest c.requires.sort late before apart f

pub reading-preserved : goal.reading-preserved
reading-preserved c =
    read_one c.args.search.now c.args.items.now c.args.self.now c.reading.rest.now c.in-Some.others.now c.in-Some.item.now c.in-Some.ensures.cases.0 c.reading.self c.reading.invariant c.add.new.self c.in_ok-add.ensures

none_left : (xs : List (Arc Feature Global)) → length xs ≡ 0 → xs ≡ []
none_left [] e = refl
none_left (x ∷ xs) e = absurd (omega (arith, e))

pub returns : goal.returns
returns c before apart f =
    let asked = c.args.search.now in
    let items = c.args.items.now in
    read_all asked items c.args.self.now c.reading.self
    (subst (λ (rest : List (Arc Feature Global)). ReadBack asked items rest c.args.self.now c.reading.self) (none_left c.reading.rest.now c.in_default.ensures.cases) c.reading.invariant) before apart f
