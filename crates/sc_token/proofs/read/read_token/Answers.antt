use Rattle.std.proofs.Common.{◌≡◌, ◌+◌, ℕ, List, Some, None, sym, ap, subst, ◌∙◌, length}
use Rattle.sc_json.specs.declared.tree.Json.{Json}
use Rattle.sc_json.specs.declared.tree.Json.TheVariants as trees
use Rattle.sc_json.specs.Spells.{Spells}
use Rattle.sc_token.specs.Reading.{IsHexOf, IsOfList}
use Rattle.sc_token.specs.Steps.{ReadsKeys}
use Rattle.sc_token.proofs.Found.{other_kind, other_token, its_token}
use Rattle.sc_token.proofs.read.read_token.Goals as goal

its_list : (text bytes seen : List ℕ) (elements : List Json) → IsHexOf text bytes → seen ≡ bytes → Spells seen (trees.List elements) → IsOfList text elements
its_list text bytes seen elements hex e s = record { bytes = bytes; hex = hex; spelled = subst (λ (x : List ℕ). Spells x (trees.List elements)) e s }

pub returns-in_default : goal.returns-in_default
returns-in_default c =
    let list = its_list c.args.text.now c.in_ok-bytes.bytes.items c.as_slice.result.now c.in_ok-elements.elements c.in_ok-bytes.ensures c.as_slice.ensures.value c.in_ok-elements.ensures in
    let count = sym c.len.ensures ∙ c.if-len-keys.false ∙ ap (λ k. length k + 2) c.keys.ensures.keys in
    other_kind c.args.sort.now c.args.text.now c.in_ok-elements.elements list count
    (subst (λ (e : List Json). ReadsKeys c.args.sort.now e None) c.as_slice-2.ensures (subst (ReadsKeys c.args.sort.now c.as_slice-2.result.now) c.in_default.is c.in_ok-key.ensures))

pub returns-then-branch : goal.returns-then-branch
returns-then-branch c =
    let list = its_list c.args.text.now c.in_ok-bytes.bytes.items c.as_slice.result.now c.in_ok-elements.elements c.in_ok-bytes.ensures c.as_slice.ensures.value c.in_ok-elements.ensures in
    let count = sym c.len.ensures ∙ c.if-len-keys.false ∙ ap (λ k. length k + 2) c.keys.ensures.keys in
    its_token c.args.sort.now c.args.text.now c.in_ok-elements.elements list count c.in-Some.key
    (subst (λ (e : List Json). ReadsKeys c.args.sort.now e (Some c.in-Some.key)) c.as_slice-2.ensures (subst (ReadsKeys c.args.sort.now c.as_slice-2.result.now) c.in-Some.is c.in_ok-key.ensures))
    c.in_ok-is_token_of.ensures.kept (c.in_ok-is_token_of.ensures.token.0 c.if-branch.true)

pub returns : goal.returns
returns c =
    let list = its_list c.args.text.now c.in_ok-bytes.bytes.items c.as_slice.result.now c.in_ok-elements.elements c.in_ok-bytes.ensures c.as_slice.ensures.value c.in_ok-elements.ensures in
    let count = sym c.len.ensures ∙ c.if-len-keys.false ∙ ap (λ k. length k + 2) c.keys.ensures.keys in
    other_token c.args.sort.now c.args.text.now c.in_ok-elements.elements list count c.in-Some.key
    (subst (λ (e : List Json). ReadsKeys c.args.sort.now e (Some c.in-Some.key)) c.as_slice-2.ensures (subst (ReadsKeys c.args.sort.now c.as_slice-2.result.now) c.in-Some.is c.in_ok-key.ensures))
    (λ e. let yes = c.in_ok-is_token_of.ensures.token.1 e in let no = c.if-branch.false in cc)
