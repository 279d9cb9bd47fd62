-- Trees that are read one after the other.
use Rattle.std.proofs.Common.{◌≡◌, ℕ, ◌≤◌, ◌+◌, suc, List, [], ◌∷◌, ◌++◌, length, map, refl, ap, sym, subst, ◌∙◌, append_assoc, arith}
use Rattle.std.proofs.lemmas.List.{map-append}
use Rattle.sc_json.specs.declared.tree.Json.{Json}
use Rattle.sc_item.specs.Feature.{Feature}
use Rattle.sc_item.specs.Reading.{IsItem}
use Rattle.sc_load.specs.declared.fault.PrepareFault.{PrepareFault}
use Rattle.sc_load.specs.declared.fault.PrepareFault.TheVariants.{BadItem, TooManyItems, BadCollection, OutOfMemory}
use Rattle.sc_load.specs.Items.{AreItems, AreRead}
use Rattle.sc_load.specs.Load.{AreItemsOf, IsItemOf}
use Rattle.sc_load.specs.Prepared.{IsItemFault, IsItemsFault}
use Rattle.sc_load.proofs.Again.{reads_again, each_again}

-- the items so far are those of the trees so far
pub record AreSoFar (collection : List ℕ) (all seen rest : List Json) (items : List Feature) : Type 0 where
  pub split : all ≡ seen ++ rest
  pub each : AreItems collection seen items

as_many : (collection : List ℕ) (trees : List Json) (items : List Feature) → AreItems collection trees items → length items ≡ length trees
as_many collection [] [] each = refl
as_many collection [] (i ∷ items) each = absurd each
as_many collection (t ∷ trees) [] each = absurd each
as_many collection (t ∷ trees) (i ∷ items) each = ap (λ n. suc n) (as_many collection trees items each.1)

one_more : (collection : List ℕ) (trees : List Json) (items : List Feature) (t : Json) (i : Feature) → AreItems collection trees items → IsItem collection t i →
    AreItems collection (trees ++ t ∷ []) (items ++ i ∷ [])
one_more collection [] [] t i each is = (is, tt)
one_more collection [] (j ∷ items) t i each is = absurd each
one_more collection (u ∷ trees) [] t i each is = absurd each
one_more collection (u ∷ trees) (j ∷ items) t i each is = (each.0, one_more collection trees items t i each.1 is)

pub more : (collection : List ℕ) (all seen left rest : List Json) (t : Json) (items : List Feature) (item : Feature) → AreSoFar collection all seen left items → left ≡ t ∷ rest →
    IsItem collection t item → AreSoFar collection all (seen ++ t ∷ []) rest (items ++ item ∷ [])
more collection all seen left rest t items item so is read = record {
  split = so.split ∙ ap (λ (l : List Json). seen ++ l) is ∙ sym (append_assoc seen (t ∷ []) rest);
  each = one_more collection seen items t item so.each read;
}

pub stopped : (collection : List ℕ) (all seen left rest : List Json) (t : Json) (items : List Feature) (n : ℕ) (fault : PrepareFault) → AreSoFar collection all seen left items → left ≡ t ∷ rest →
    length all ≤ 10000 → n ≡ length items → IsItemFault collection t n fault → IsItemsFault collection all fault
stopped collection all seen left rest t items n (BadItem place fault) so is few count bad = record {
  few = few;
  before = seen;
  tree = t;
  after = rest;
  split = so.split ∙ ap (λ (l : List Json). seen ++ l) is;
  place_is = bad.0 ∙ count ∙ as_many collection seen items so.each;
  items = items;
  good = so.each;
  bad = bad.1;
}
stopped collection all seen left rest t items n (TooManyItems most) so is few count bad = absurd bad
stopped collection all seen left rest t items n BadCollection so is few count bad = absurd bad
stopped collection all seen left rest t items n OutOfMemory so is few count bad = tt

pub pushed : {A : Type 0} (f : A → Feature) (xs ys : List A) (a : A) (item : Feature) → ys ≡ xs ++ a ∷ [] → f a ≡ item → map f ys ≡ map f xs ++ item ∷ []
pushed f xs ys a item is value = ap (map f) is ∙ map-append f xs (a ∷ []) ∙ ap (λ (i : Feature). map f xs ++ i ∷ []) value

-- items that are read are items of the collection
own_items : (collection other : List ℕ) (trees : List Json) (items : List Feature) → AreRead collection trees items → other ≡ collection → AreItemsOf other items
own_items collection other trees items read same =
    let few : length trees ≤ 10000 = read.few in
    let many : length items ≡ length trees = as_many collection trees items read.each in
    subst (λ (c : List ℕ). AreItemsOf c items) (sym same) (record { few = omega (arith, few, many); each = each_again collection trees items read.each })

pub own_load : {A : Type 0} (f : A → Feature) (collection other : List ℕ) (trees : List Json) (xs ys : List A) → AreRead collection trees (map f xs) → ys ≡ xs → other ≡ collection → AreItemsOf other (map f ys)
own_load {A} f collection other trees xs ys read is same = subst (λ (x : List A). AreItemsOf other (map f x)) (sym is) (own_items collection other trees (map f xs) read same)

pub own_item : (collection other : List ℕ) (tree : Json) (item new : Feature) → IsItem collection tree item → new ≡ item → other ≡ collection → IsItemOf other new
own_item collection other tree item new read is same =
    subst (λ (x : Feature). IsItemOf other x) (sym is) (subst (λ (x : List ℕ). IsItemOf x item) (sym same) (reads_again collection tree item read))
