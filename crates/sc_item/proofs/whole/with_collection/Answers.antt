use Rattle.std.proofs.Common.{ℕ, List, IsUtf8, subst, sym, ◌∙◌}
use Rattle.sc_item.proofs.Extending.{has_one}
use Rattle.sc_item.proofs.Telling.{extended_whole, extended_good}
use Rattle.sc_item.proofs.whole.with_collection.Goals as goal

pub returns-then-has_collection-clause-tree : goal.returns-then-has_collection-clause-tree
returns-then-has_collection-clause-tree c = let h = c.if-has_collection.ensures in has_one c.args.collection.now c.args.tree h.0 h.1

pub returns-clause-tree : goal.returns-clause-tree
returns-clause-tree c =
    extended_whole c.extended.result c.args.collection.now c.in_ok-name.name c.in_ok-from_str.field-0 c.args.tree c.extended.ensures
    (c.in_ok-name.ensures ∙ c.collection_name.ensures) (c.in_ok-from_str.ensures ∙ c.as_str.ensures) c.if-has_collection.ensures

pub returns-clause-good : goal.returns-clause-good
returns-clause-good c =
    extended_good c.extended.result c.in_ok-name.name c.in_ok-from_str.field-0 c.args.tree c.extended.ensures
    (c.in_ok-name.ensures ∙ c.collection_name.ensures)
    (subst (λ (x : List ℕ). IsUtf8 x) (sym c.in_ok-name.ensures) c.collection_name.utf8)
    (subst (λ (x : List ℕ). IsUtf8 x) (sym c.in_ok-from_str.ensures) c.as_str.utf8) c.requires c.if-has_collection.ensures
