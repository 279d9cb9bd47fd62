use Rattle.std.proofs.Common.{◌≡◌, ◌<◌, List, ℕ, [], ◌∷◌, ◌++◌, length, ap, sym, subst, ◌∙◌, arith}
use Rattle.std.proofs.lemmas.Grind.{common_steps}
use Rattle.sc_kept.proofs.Splitting.{AreRead, no_text, none_begins, read_all, read_one}
use Rattle.sc_kept.proofs.fields.read_fields.Goals as goal

pub returns-in_default : goal.returns-in_default
returns-in_default c =
    let some : 0 < length c.fields.rest.now = grind (arith, common_steps) in
    none_begins c.args.bytes.now c.fields.rest.now c.fields.fields.items c.fields.invariant some c.in_default.ensures

pub returns-in_default-2 : goal.returns-in_default-2
returns-in_default-2 c =
    let bad = rw c.in_default-2.is at c.in_ok-text.ensures.none in
    no_text c.args.bytes.now c.fields.rest.now c.in-Some.field.now c.in-Some.after.now c.fields.fields.items c.fields.invariant c.in-Some.ensures bad

pub fields-preserved : goal.fields-preserved
fields-preserved c =
    let same = rw c.in-Some-2.is at c.in_ok-text.ensures.some in
    let utf8 = rw c.in-Some-2.is at c.in_ok-text.ensures.utf8 in
    subst (λ (l : List (List ℕ)). AreRead c.args.bytes.now l c.in-Some.after.now)
    (sym (c.in_ok-push.ensures.items ∙ ap (λ (t : List ℕ). c.fields.fields.items ++ t ∷ []) same))
    (read_one c.args.bytes.now c.fields.rest.now c.in-Some.after.now c.in-Some.field.now c.fields.fields.items c.fields.invariant c.in-Some.ensures utf8)

pub returns : goal.returns
returns c =
    let none : length c.fields.rest.now ≡ 0 = grind (arith, common_steps) in
    rw c.of-2.ensures (read_all c.args.bytes.now c.fields.rest.now c.fields.fields.items c.fields.invariant none)
