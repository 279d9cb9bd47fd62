use Rattle.std.proofs.Common.{◌-◌, List, ℕ, length, drop, subst, arith}
use Rattle.std.proofs.lemmas.List.{take_all, length-drop}
use Rattle.sc_item.specs.Feature.{Feature}
use Rattle.sc_kept.specs.Record.{AreDocumentsOf}
use Rattle.sc_kept.proofs.Telling.{not_inserted}
use Rattle.sc_kept.proofs.loads.read_insert.Goals as goal

pub returns-in_default-2 : goal.returns-in_default-2
returns-in_default-2 c =
    let fields = c.args.fields.now in
    let none = rw c.in_default-2.is at c.in_ok-items.ensures in
    let whole = take_all (length fields - 1) (drop 1 fields) (omega (arith, length-drop 1 fields)) in
    not_inserted fields c.collection-item.result c.collection-item.is
    (subst (λ (texts : List (List ℕ)). (items : List Feature) → AreDocumentsOf c.collection-item.result texts items → ⊥) whole none)
