-- Items that are made one after the other.
use Rattle.std.proofs.Common.{◌≡◌, ℕ, zero, suc, ◌+◌, ◌*◌, ◌≤◌, List, [], ◌∷◌, ◌++◌, length, map, ap, sym, subst, ◌∙◌, arith, add-one}
use Rattle.std.proofs.lemmas.List.{map-append}
use Rattle.std.specs.List.{All, AllZip, range_with_len}
use Rattle.std.proofs.lemmas.List.Elements.{All-nil, All-cons}
use Rattle.std.proofs.lemmas.List.FromFn.{length-range_with_len}
use Rattle.std.proofs.lemmas.Slice.Zip.{AllZip-long}
use Rattle.sc_item.specs.Feature.{Feature}
use Rattle.sc_load.specs.Load.{IsItemOf, AreItemsOf}
use Rattle.sc_load.proofs.Again.{reads_again}
use Rattle.rand_pcg.specs.Lcg.{Lcg}
use Rattle.sc_gen.specs.declared.draw.Draw.{Draw}
use Rattle.sc_gen.specs.Draws.{behind, generator_of, draw_of, draw_at}
use Rattle.sc_gen.specs.Document.{collection_of}
use Rattle.sc_gen.specs.Generated.{IsDocument, IsSpelled, IsGeneratedItem, AreGeneratedItems}

one_more : (seed load a n : ℕ) (items : List Feature) (item : Feature) → AllZip (IsGeneratedItem seed load) (range_with_len a n) items → IsGeneratedItem seed load (a + n) item →
    AllZip (IsGeneratedItem seed load) (range_with_len a (suc n)) (items ++ item ∷ [])
one_more seed load a zero [] item each is =
    let same : a + 0 ≡ a = omega arith in
    (subst (λ (k : ℕ). IsGeneratedItem seed load k item) same is, tt)
one_more seed load a zero (i ∷ items) item each is = absurd each
one_more seed load a (suc n) [] item each is = absurd each
one_more seed load a (suc n) (i ∷ items) item each is =
    let same : a + suc n ≡ a + 1 + n = omega arith in
    (each.0, one_more seed load (a + 1) n items item each.1 (subst (λ (k : ℕ). IsGeneratedItem seed load k item) same is))

pub none : {A : Type 0} (f : A → Feature) (seed load : ℕ) (xs : List A) → xs ≡ [] → AreGeneratedItems seed load 0 (map f xs)
none f seed load xs is = subst (λ x. AreGeneratedItems seed load 0 (map f x)) (sym is) tt

pub more : {A : Type 0} (f : A → Feature) (seed load n : ℕ) (xs ys : List A) (a : A) (item : Feature) → AreGeneratedItems seed load n (map f xs) → IsGeneratedItem seed load n item → ys ≡ xs ++ a ∷ [] → f a ≡ item →
    AreGeneratedItems seed load (n + 1) (map f ys)
more f seed load n xs ys a item each is pushed value =
    let all : map f ys ≡ map f xs ++ item ∷ [] = ap (map f) pushed ∙ map-append f xs (a ∷ []) ∙ ap (λ (i : Feature). map f xs ++ i ∷ []) value in
    let next : n + 1 ≡ suc n = add-one n in
    let here : n ≡ 0 + n = omega arith in
    subst (AreGeneratedItems seed load (n + 1)) (sym all)
    (subst (λ (k : ℕ). AreGeneratedItems seed load k (map f xs ++ item ∷ [])) (sym next) (one_more seed load 0 n (map f xs) item each (subst (λ (k : ℕ). IsGeneratedItem seed load k item) here is)))

-- the item that is spelled by its document, whose words are the next four
pub made : (seed load number : ℕ) (collection text spelling : List ℕ) (draw : Draw) (g : Lcg) (item : Feature) → collection ≡ collection_of load → g ≡ behind (4 * number) (generator_of seed load) → draw ≡ draw_of g →
    IsDocument collection load number draw text → spelling ≡ text → IsSpelled collection spelling item → IsGeneratedItem seed load number item
made seed load number collection text spelling draw g item same at drawn document as_text spelled = record {
  text = text;
  document =
      subst (λ (c : List ℕ). IsDocument c load number (draw_at seed load number) text) same
      (subst (λ (d : Draw). IsDocument collection load number d text) (drawn ∙ ap draw_of at) document);
  item_is =
      subst (λ (c : List ℕ). IsSpelled c text item) same (subst (λ (t : List ℕ). IsSpelled collection t item) as_text spelled);
}

each_own : (seed load : ℕ) (ns : List ℕ) (items : List Feature) → AllZip (IsGeneratedItem seed load) ns items → All (IsItemOf (collection_of load)) items
each_own seed load [] [] each = All-nil (IsItemOf (collection_of load))
each_own seed load [] (i ∷ items) each = absurd each
each_own seed load (n ∷ ns) [] each = absurd each
each_own seed load (n ∷ ns) (i ∷ items) each =
    All-cons (IsItemOf (collection_of load)) i items (reads_again (collection_of load) each.0.item_is.tree i each.0.item_is.item_is) (each_own seed load ns items each.1)

-- they are items of the load's collection
pub own : (seed load count : ℕ) (items : List Feature) → count ≤ 10000 → AreGeneratedItems seed load count items → AreItemsOf (collection_of load) items
own seed load count items few each =
    let long : length items ≡ length (range_with_len 0 count) = AllZip-long (IsGeneratedItem seed load) (range_with_len 0 count) items each in
    let many : length (range_with_len 0 count) ≡ count = length-range_with_len 0 count in
    record { few = omega (arith, long, many, few); each = each_own seed load (range_with_len 0 count) items each }

pub own_load : {A : Type 0} (f : A → Feature) (seed load count : ℕ) (collection : List ℕ) (xs ys : List A) → count ≤ 10000 → AreGeneratedItems seed load count (map f xs) → ys ≡ xs → collection ≡ collection_of load →
    AreItemsOf collection (map f ys)
own_load f seed load count collection xs ys few each is same =
    subst (λ (c : List ℕ). AreItemsOf c (map f ys)) (sym same)
    (own seed load count (map f ys) few (subst (λ x. AreGeneratedItems seed load count (map f x)) (sym is) each))
