use Rattle.std.proofs.Common.{◌≡◌, ◌≢◌, List, ℕ, Err, subst, ◌∙◌, rules}
use Rattle.sc_json.specs.Faults as faults
use Rattle.sc_json.specs.Spells.{Spells}
use Rattle.sc_json.specs.declared.fault.JsonFault.TheVariants as texts
use Rattle.sc_kept.proofs.Telling.{no_tree, other_text}
use Rattle.sc_kept.proofs.documents.read_tree.Goals as goal

pub returns-else-eq : goal.returns-else-eq
returns-else-eq c =
    let spelled = subst (λ (l : List ℕ). Spells l c.in-Ok.tree) c.bytes.ensures.bytes c.in-Ok.ensures in
    let other : c.in_ok-write_json-in-Ok.field-0 ≡ c.args.text.now → ⊥ = search rules in
    other_text c.args.text.now c.in-Ok.tree spelled (λ same. other (c.in_ok-write_json-in-Ok.ensures.text ∙ same))

pub returns-in-Err : goal.returns-in-Err
returns-in-Err c =
    let not : c.in-Err.field-0 ≢ texts.OutOfMemory = search rules in
    no_tree c.args.text.now c.in-Err.field-0 not (subst (λ (l : List ℕ). faults.Answers l (Err c.in-Err.field-0)) c.bytes.ensures.bytes c.in-Err.ensures)
