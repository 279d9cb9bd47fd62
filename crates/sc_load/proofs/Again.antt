-- An item's own tree, which tells its collection, is the item again.
use Rattle.std.proofs.Common.{◌≡◌, ℕ, List, [], ◌∷◌, ◌++◌, Bool, true, false, cond, Option, Some, None, refl, ap, sym, subst, ◌∙◌, nat_eq}
use Rattle.std.specs.List.{All}
use Rattle.std.specs.Option.{option_and_then}
use Rattle.std.specs.Cmp.Lexicographic.{pointwise}
use Rattle.std.proofs.lemmas.List.Elements.{All-nil, All-cons}
use Rattle.sc_json.specs.declared.tree.Json.{Json}
use Rattle.sc_json.specs.declared.tree.Json.TheVariants as trees
use Rattle.sc_json.specs.declared.tree.Json.TheOpen as layer
use Rattle.sc_json.specs.declared.tree.Json.TheOpen.{Json-F, Member-F}
use Rattle.sc_json.specs.declared.tree.Json.TheViews.{out-Json, out-roll-Json, out-roll-Member}
use Rattle.sc_json.specs.declared.tree.Member.{Member, out-Member}
use Rattle.sc_json.specs.Grammar.{member}
use Rattle.sc_json.specs.Member.{value_in, members_of, member_value}
use Rattle.sc_item.specs.Words.{type_name, properties_name, id_name, collection_name, geometry_name}
use Rattle.sc_item.specs.Trees.{text_of, text_in, text_member, extended, extended_in, with_collection}
use Rattle.sc_item.specs.Feature.{Feature}
use Rattle.sc_item.specs.Shape.{IsShape}
use Rattle.sc_item.specs.Reading.{IsFeature, IsOf, Belongs, AreParts, IsItem, parts_of}
use Rattle.sc_item.proofs.Extending.{out_object, has_one, has_none}
use Rattle.sc_load.specs.Items.{AreItems}
use Rattle.sc_load.specs.Load.{IsItemOf}

-- the member that is added
abbrev told : List ℕ → Member
told collection = member collection_name (trees.Text collection)

-- ---- members behind which one more stands

value_push : (ms : List Member) (m : Member) (name : List ℕ) → pointwise nat_eq (out-Member m).name name ≡ false → value_in (ms ++ m ∷ []) name ≡ value_in ms name
value_push [] m name other = ap (λ (b : Bool). cond b (Some (out-Member m).value) None) other
value_push (x ∷ xs) m name other = ap (λ (o : Option Json). cond (pointwise nat_eq (out-Member x).name name) (Some (out-Member x).value) o) (value_push xs m name other)

value_last : (ms : List Member) (m : Member) (name : List ℕ) → pointwise nat_eq (out-Member m).name name ≡ true → value_in ms name ≡ None → value_in (ms ++ m ∷ []) name ≡ Some (out-Member m).value
value_last [] m name own none = ap (λ (b : Bool). cond b (Some (out-Member m).value) None) own
value_last (x ∷ xs) m name own none = by (pointwise nat_eq (out-Member x).name name) (value_last xs m name own) none
  where
    by : (b : Bool) → (value_in xs name ≡ None → value_in (xs ++ m ∷ []) name ≡ Some (out-Member m).value) →
        cond b (Some (out-Member x).value) (value_in xs name) ≡ None → cond b (Some (out-Member x).value) (value_in (xs ++ m ∷ []) name) ≡ Some (out-Member m).value
    by true later e = absurd cc
    by false later e = later e

-- ---- the tree with its collection

abbrev has_text : List ℕ → Option Json → Type 0
has_text collection value = value ≡ Some (trees.Text collection)

told_name : (collection : List ℕ) → (out-Member (told collection)).name ≡ collection_name
told_name collection = ap (λ (x : Member-F Json Member). x.name) (out-roll-Member (record { name = collection_name; value = trees.Text collection }))

told_value : (collection : List ℕ) → (out-Member (told collection)).value ≡ trees.Text collection
told_value collection = ap (λ (x : Member-F Json Member). x.value) (out-roll-Member (record { name = collection_name; value = trees.Text collection }))

-- members of other names
other_extended : (tree : Json) (m : Member) (name : List ℕ) → pointwise nat_eq (out-Member m).name name ≡ false → member_value (extended tree m) name ≡ member_value tree name
unfolding extended
other_extended tree m name other = by (out-Json tree) refl
  where
    by : (l : Json-F Json Member) → out-Json tree ≡ l → value_in (members_of (out-Json (extended_in l tree m))) name ≡ value_in (members_of (out-Json tree)) name
    by layer.Null is = refl
    by (layer.Truth b) is = refl
    by (layer.Number n) is = refl
    by (layer.Text t) is = refl
    by (layer.List vs) is = refl
    by (layer.Object ms) is =
        ap (λ (l : Json-F Json Member). value_in (members_of l) name) (out_object (ms ++ m ∷ [])) ∙ value_push ms m name other
        ∙ sym (ap (λ (l : Json-F Json Member). value_in (members_of l) name) is)

-- the added member, where the tree is an object
own_extended : (tree : Json) (m : Member) (name known : List ℕ) (v : Json) → pointwise nat_eq (out-Member m).name name ≡ true → member_value tree name ≡ None → member_value tree known ≡ Some v →
    member_value (extended tree m) name ≡ Some (out-Member m).value
unfolding extended
own_extended tree m name known v own none there = by (out-Json tree) none there
  where
    by : (l : Json-F Json Member) → value_in (members_of l) name ≡ None → value_in (members_of l) known ≡ Some v → value_in (members_of (out-Json (extended_in l tree m))) name ≡ Some (out-Member m).value
    by layer.Null n t = absurd cc
    by (layer.Truth b) n t = absurd cc
    by (layer.Number x) n t = absurd cc
    by (layer.Text x) n t = absurd cc
    by (layer.List vs) n t = absurd cc
    by (layer.Object ms) n t = ap (λ (l : Json-F Json Member). value_in (members_of l) name) (out_object (ms ++ m ∷ [])) ∙ value_last ms m name own n

other_told : (collection : List ℕ) (tree : Json) (name : List ℕ) → pointwise nat_eq collection_name name ≡ false → (o : Option Json) → member_value tree collection_name ≡ o →
    member_value (with_collection collection tree) name ≡ member_value tree name
other_told collection tree name other (Some v) is = ap (λ (t : Json). member_value t name) (sym (has_one collection tree v is))
other_told collection tree name other None is =
    ap (λ (t : Json). member_value t name) (sym (has_none collection tree is))
    ∙ other_extended tree (told collection) name (ap (λ (x : List ℕ). pointwise nat_eq x name) (told_name collection) ∙ other)

other_member : (collection : List ℕ) (tree : Json) (name : List ℕ) → pointwise nat_eq collection_name name ≡ false → member_value (with_collection collection tree) name ≡ member_value tree name
other_member collection tree name other = other_told collection tree name other (member_value tree collection_name) refl

text_is : (t : List ℕ) → text_of (trees.Text t) ≡ Some t
unfolding text_of
text_is t = ap text_in (ap out-Json (sym (trees.rolls-Text t)) ∙ out-roll-Json (layer.Text t))

-- the tree has the collection, and it is this one
record Told (collection : List ℕ) (tree : Json) : Type 0 where
  pub value : Json
  pub there : member_value tree collection_name ≡ Some value
  pub text : text_of value ≡ Some collection

same_name : pointwise nat_eq collection_name collection_name ≡ true
unfolding collection_name
same_name = refl

own_told : (collection : List ℕ) (tree properties : Json) → IsFeature tree properties → Belongs collection tree → (o : Option Json) → member_value tree collection_name ≡ o → Told collection (with_collection collection tree)
own_told collection tree properties f b (Some v) is =
    subst (Told collection) (has_one collection tree v is) (record { value = v; there = is; text = subst (IsOf collection) is b })
own_told collection tree properties f b None is =
    subst (Told collection) (has_none collection tree is)
    (record {
      value = trees.Text collection;
      there = own_extended tree (told collection) collection_name properties_name properties (ap (λ (x : List ℕ). pointwise nat_eq x collection_name) (told_name collection) ∙ same_name) is f.there
          ∙ ap (λ (v : Json). Some v) (told_value collection);
      text = text_is collection;
    })

-- ---- the item again

other_type : pointwise nat_eq collection_name type_name ≡ false
unfolding collection_name type_name
other_type = refl

other_id : pointwise nat_eq collection_name id_name ≡ false
unfolding collection_name id_name
other_id = refl

other_properties : pointwise nat_eq collection_name properties_name ≡ false
unfolding collection_name properties_name
other_properties = refl

other_geometry : pointwise nat_eq collection_name geometry_name ≡ false
unfolding collection_name geometry_name
other_geometry = refl

other_text : (collection : List ℕ) (tree : Json) (name : List ℕ) → pointwise nat_eq collection_name name ≡ false → text_member (with_collection collection tree) name ≡ text_member tree name
unfolding text_member
other_text collection tree name other = ap (option_and_then text_of) (other_member collection tree name other)

parts_again : (collection : List ℕ) (tree : Json) (item : Feature) → AreParts collection tree (parts_of item) → Told collection (with_collection collection tree) → AreParts collection (with_collection collection tree) (parts_of item)
parts_again collection tree item p t =
    let f = p.feature in
    let i = p.id_is in
    record {
      properties = p.properties;
      feature = record {
        kind = other_text collection tree type_name other_type ∙ f.kind;
        there = other_member collection tree properties_name other_properties ∙ f.there;
        object = f.object;
      };
      id_is = record { there = other_text collection tree id_name other_id ∙ i.there; some = i.some; short = i.short };
      belongs = subst (IsOf collection) (sym t.there) t.text;
      times = p.times;
      shape = subst (λ (o : Option Json). IsShape o item.geom) (sym (other_member collection tree geometry_name other_geometry)) p.shape;
    }

pub reads_again : (collection : List ℕ) (tree : Json) (item : Feature) → IsItem collection tree item → IsItemOf collection item
reads_again collection tree item i =
    let t = own_told collection tree i.parts.properties i.parts.feature i.parts.belongs (member_value tree collection_name) refl in
    let again : IsItem collection (with_collection collection tree) item = record {
      parts = parts_again collection tree item i.parts t;
      collection_is = i.collection_is;
      place_is = i.place_is;
      tree_is = i.tree_is ∙ has_one collection (with_collection collection tree) t.value t.there;
      doc_is = i.doc_is;
    } in
    subst (λ (x : Json). IsItem collection x item) (sym i.tree_is) again

pub each_again : (collection : List ℕ) (ts : List Json) (items : List Feature) → AreItems collection ts items → All (IsItemOf collection) items
each_again collection [] [] each = All-nil (IsItemOf collection)
each_again collection [] (i ∷ items) each = absurd each
each_again collection (t ∷ ts) [] each = All-nil (IsItemOf collection)
each_again collection (t ∷ ts) (i ∷ items) each = All-cons (IsItemOf collection) i items (reads_again collection t i each.0) (each_again collection ts items each.1)
