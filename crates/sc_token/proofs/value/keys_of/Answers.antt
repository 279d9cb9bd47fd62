use Rattle.std.proofs.Common.{List, ap, subst, ◌∙◌, take, drop, length}
use Rattle.std.specs.Prelude.{SomeIff}
use Rattle.std.specs.List.{AllPass}
use Rattle.sc_sort.specs.declared.value.SortValue.{SortValue}
use Rattle.sc_sort.specs.Keys.{is_short}
use Rattle.sc_token.specs.Steps.{ReadsName}
use Rattle.sc_token.proofs.Found.{found, added_all}
use Rattle.sc_token.proofs.value.keys_of.Goals as goal

pub returns : goal.returns
returns c =
    let elements = c.args.elements.now in
    let front = c.split_at.ensures.front ∙ ap (λ k. take (length k) elements) c.keys-keys.ensures.keys in
    let back = c.split_at.ensures.back ∙ ap (λ k. drop (length k) elements) c.keys-keys.ensures.keys in
    let added = added_all c.in_ok-add_values.field-0 c.keys-keys.result.now c.args.sort.now c.split_at.result.0.now c.in_ok-values.values.items c.add_values.new.values.items
    c.if-not-branch.false c.keys-keys.ensures.keys c.in_ok-values.ensures.items c.in_ok-add_values.ensures in
    found c.args.sort.now elements c.split_at.result.0.now c.split_at.result.1.now front back
    c.add_values.new.values.items c.in-Some.collection c.in-Some-2.id
    c.index-names-0.result c.index-names-1.result c.index-names-0.is c.index-names-1.is
    (subst (ReadsName c.index-names-0.result) c.in-Some.is c.in_ok-collection.ensures)
    (subst (ReadsName c.index-names-1.result) c.in-Some-2.is c.in_ok-id.ensures)
    added c.of-2.result
    (subst (λ (v : List SortValue). SomeIff c.of-2.result (AllPass is_short v) (record { values = v; collection = c.in-Some.collection; id = c.in-Some-2.id })) c.of.ensures c.of-2.ensures)
