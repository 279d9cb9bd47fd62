-- What reading the tree of a line says of the line.
use Rattle.std.proofs.Common.{◌≡◌, ℕ, false, List, Some, None, Result, Ok, Err, sym, subst, ◌∙◌, IsUtf8}
use Rattle.std.specs.Prelude.{IfOk}
use Rattle.sc_json.specs.declared.tree.Json.{Json}
use Rattle.sc_json.specs.declared.tree.Json.TheVariants as trees
use Rattle.sc_json.specs.Grammar.{member}
use Rattle.sc_json.specs.Good.{Good}
use Rattle.sc_json.specs.Member.{member_value}
use Rattle.sc_json.specs.Spells.{Spells}
use Rattle.sc_json.proofs.Spelled.{spelled_once}
use Rattle.sc_item.specs.declared.fault.ItemFault.{ItemFault}
use Rattle.sc_item.specs.Words.{collection_name}
use Rattle.sc_item.specs.Trees.{text_member, extended, with_collection}
use Rattle.sc_item.specs.Feature.{Feature}
use Rattle.sc_item.specs.Reading.{IsItem, IsFault}
use Rattle.sc_item.specs.Line.{TellsCollection, IsLine}
use Rattle.sc_item.specs.Memory.{is_memory}
use Rattle.sc_item.proofs.Lines.{one_id}
use Rattle.sc_item.proofs.Extending.{has_none, good_extended}
use Rattle.sc_item.proofs.Excluding.{no_fault}

pub untold_line : (line : List ℕ) (tree : Json) → Spells line tree → ((text : List ℕ) → TellsCollection tree text → ⊥) → (item : Feature) → IsLine line item → ⊥
untold_line line tree s none item i =
    let same : i.tree ≡ tree = spelled_once line i.tree tree i.spelled.text s.text in
    none item.collection (subst (λ (t : Json). TellsCollection t item.collection) same i.collection)

pub faulty_line : (line collection given : List ℕ) (tree : Json) (f : ItemFault) → Spells line tree → TellsCollection tree collection → given ≡ collection → is_memory f ≡ false → IsFault given tree f →
    (item : Feature) → IsLine line item → ⊥
faulty_line line collection given tree f s told g m h item i =
    let same : i.tree ≡ tree = spelled_once line i.tree tree i.spelled.text s.text in
    let texts : Some item.collection ≡ Some collection = sym (subst (λ (t : Json). text_member t collection_name ≡ Some item.collection) same i.collection.told) ∙ told.told in
    let c : item.collection ≡ given = one_id item.collection collection texts ∙ sym g in
    no_fault given tree f m h item (subst (λ (x : List ℕ). IsItem x tree item) c (subst (λ (t : Json). IsItem item.collection t item) same i.item_is))

pub good_line : (line collection given : List ℕ) (tree : Json) (item : Feature) → Spells line tree → TellsCollection tree collection → given ≡ collection → IsItem given tree item → IsLine line item
good_line line collection given tree item s told g i = record {
  tree = tree;
  spelled = s;
  collection = subst (TellsCollection tree) (sym (i.collection_is ∙ g)) told;
  item_is = subst (λ (x : List ℕ). IsItem x tree item) (sym i.collection_is) i;
}

-- ---- a collection that is added

pub extended_whole : {E : Type 0} (r : Result Json E) (collection name text : List ℕ) (tree : Json) → IfOk r (λ w. w ≡ extended tree (member name (trees.Text text))) →
    name ≡ collection_name → text ≡ collection → member_value tree collection_name ≡ None → IfOk r (λ w. w ≡ with_collection collection tree)
extended_whole (Ok w) collection name text tree e n t none = e ∙ (λ k. extended tree (member (n k) (trees.Text (t k)))) ∙ has_none collection tree none
extended_whole (Err x) collection name text tree e n t none = tt

pub extended_good : {E : Type 0} (r : Result Json E) (name text : List ℕ) (tree : Json) → IfOk r (λ w. w ≡ extended tree (member name (trees.Text text))) →
    name ≡ collection_name → IsUtf8 name → IsUtf8 text → Good tree → member_value tree collection_name ≡ None → IfOk r Good
extended_good (Ok w) name text tree e n u v g none =
    subst Good (sym e) (good_extended tree name text g (subst (λ (x : List ℕ). member_value tree x ≡ None) (sym n) none) u v)
extended_good (Err x) name text tree e n u v g none = tt
