-- One item or id more in the groups of a load.
use Rattle.std.proofs.Common.{◌≡◌, ℕ, Bool, true, false, cond, ◌&&◌, ◌||◌, ℤ, List, [], ◌∷◌, ◌++◌, map, filter, take, Option, Some, None, refl, sym, ap, ◌∙◌, subst, bytes_eq, ◌<◌, ◌+◌, zero, suc, arith, length, get_or}
use Rattle.std.specs.Option.{is_some}
use Rattle.std.specs.List.{All, AllByRecursion, list_any}
use Rattle.std.specs.Arc.{arc_value}
use Rattle.std.specs.declared.alloc.Global.{Global}
use Rattle.std.specs.declared.sync.Arc.{Arc}
use Rattle.std.specs.BTreeMap.{BTreeMap, get}
use Rattle.std.specs.Ordering.{int_cmp, int_eq, is_eq}
use Rattle.std.proofs.lemmas.List.{take_more}
use Rattle.std.proofs.lemmas.List.Folds.{list_any-append}
use Rattle.std.proofs.lemmas.List.Elements.{All-contains}
use Rattle.std.proofs.lemmas.Bool.{and_parts}
use Rattle.std.proofs.lemmas.Bool.Decides.{Decides-int_eq}
use Rattle.sc_item.specs.Feature.{Feature}
use Rattle.sc_cut.specs.declared.cut.Cut.{Cut}
use Rattle.sc_cut.specs.Key.{HasKey}
use Rattle.sc_load.specs.Load.{IsItemOf}
use Rattle.sc_history.specs.Content.{is_item, item_in}
use Rattle.sc_history.specs.Changes.{is_among}
use Rattle.sc_history.specs.Names.{fits}
use Rattle.sc_history.proofs.Texts.{never, same_text}
use Rattle.sc_history.proofs.Contents.{find_some}
use Rattle.sc_history.proofs.Lawful.{fits_test}
use Rattle.sc_catalog.specs.declared.groups.Group.{Group}
use Rattle.sc_catalog.specs.Groups.{AreGrouped, come_in, gone_in, is_found_in, name_at, stood_in}
use Rattle.sc_catalog.proofs.Grouping.{find_contained, key_test, same_test}

-- the key of an item
pub key_fits : (collection : List ℕ) (cut : Cut) (key here : ℤ) (item : Feature) → IsItemOf collection item → item.collection ≡ collection → HasKey cut here item.start → ((k : ℤ) → HasKey cut k item.start → k ≡ here)
    → fits (name_at collection cut key) item ≡ is_eq (int_cmp here key)
key_fits collection cut key here item is of has only =
    let test = fits_test (name_at collection cut key) item (subst (λ c. IsItemOf c item) (sym of) is) in
    same_test (fits (name_at collection cut key) item) (int_eq key here)
    (λ e. (Decides-int_eq key here).1 (only key (test.0 e).key))
    (λ e. test.1 (record { collection = of; key = subst (λ k. HasKey cut k item.start) (sym ((Decides-int_eq key here).0 e)) has }))
    ∙ key_test key here

-- whether there is a group of the key
pub there_too : (groups : BTreeMap ℤ Group) (key k : ℤ) → is_some (get int_cmp groups key) ≡ true → is_some (get int_cmp groups k) ≡ (is_eq (int_cmp key k) || is_some (get int_cmp groups k))
there_too groups key k e = go (is_eq (int_cmp key k)) refl
  where
    go : (b : Bool) → is_eq (int_cmp key k) ≡ b → is_some (get int_cmp groups k) ≡ (b || is_some (get int_cmp groups k))
    go false is = refl
    go true is = let same : k ≡ key = (Decides-int_eq k key).0 (key_test k key ∙ is) in ap (λ q. is_some (get int_cmp groups q)) same ∙ e

-- and a group that was made is there
pub made_there : {R : Type 0} (old new : Option Group) (key : ℤ) → is_some new ≡ (is_eq (int_cmp key key) || is_some old) → None ≡ new → R
made_there old new key e none = never (is_some new) (e ∙ ap (λ b. b || is_some old) (sym (key_test key key) ∙ (Decides-int_eq key key).1 refl)) (ap is_some (sym none))

filter_pushed : {X : Type 0} (p : X → Bool) (xs : List X) (x : X) → filter p (xs ++ x ∷ []) ≡ filter p xs ++ cond (p x) (x ∷ []) []
filter_pushed p [] x = refl
filter_pushed p (y ∷ xs) x = go (p y) (filter_pushed p xs x)
  where
    go : (b : Bool) → filter p (xs ++ x ∷ []) ≡ filter p xs ++ cond (p x) (x ∷ []) [] → cond b (y ∷ filter p (xs ++ x ∷ [])) (filter p (xs ++ x ∷ [])) ≡ cond b (y ∷ filter p xs) (filter p xs) ++ cond (p x) (x ∷ []) []
    go true e = ap (λ l. y ∷ l) e
    go false e = e

or_last : (a b e : Bool) → (e || (a || b)) ≡ ((a || (e || false)) || b)
or_last true b true = refl
or_last true b false = refl
or_last false b true = refl
or_last false b false = refl

or_end : (a b e : Bool) → (e || (a || b)) ≡ (a || (b || (e || false)))
or_end true b true = refl
or_end true b false = refl
or_end false true true = refl
or_end false true false = refl
or_end false false true = refl
or_end false false false = refl

-- an item more that comes
pub arrived : (items : List Feature) (collection : List ℕ) (cut : Cut) (gone : List (List ℕ)) (come : List Feature) (old new : BTreeMap ℤ Group) (item : Feature) (key : ℤ)
    → ((k : ℤ) → fits (name_at collection cut k) item ≡ is_eq (int_cmp key k))
    → ((k : ℤ) → come_in (get int_cmp new k) ≡ come_in (get int_cmp old k) ++ cond (is_eq (int_cmp key k)) (item ∷ []) [])
    → ((k : ℤ) → gone_in (get int_cmp new k) ≡ gone_in (get int_cmp old k))
    → ((k : ℤ) → is_some (get int_cmp new k) ≡ (is_eq (int_cmp key k) || is_some (get int_cmp old k)))
    → AreGrouped items collection cut gone come old → AreGrouped items collection cut gone (come ++ item ∷ []) new
arrived items collection cut gone come old new item key fit comes goes some are = record {
  come_is = λ k. comes k ∙ (ap (λ l. l ++ cond (is_eq (int_cmp key k)) (item ∷ []) []) (are.come_is k) ∙ (ap (λ b. filter (fits (name_at collection cut k)) come ++ cond b (item ∷ []) []) (sym (fit k)) ∙ sym (filter_pushed (fits (name_at collection cut k)) come item)));
  gone_is = λ k id. ap (λ l. is_among l id) (goes k) ∙ are.gone_is k id;
  some = λ k.
      let p = fits (name_at collection cut k) in
      some k ∙ (ap (λ b. is_eq (int_cmp key k) || b) (are.some k) ∙ (or_last (list_any p come) (list_any (stood_in items collection cut k) gone) (is_eq (int_cmp key k))
      ∙ (ap (λ b. (list_any p come || (b || false)) || list_any (stood_in items collection cut k) gone) (sym (fit k)) ∙ ap (λ b. b || list_any (stood_in items collection cut k) gone) (sym (list_any-append p come (item ∷ []))))));
}

-- ---- an id more that goes

one_more : (a s e t : Bool) → (t ≡ true → s ≡ e) → ((a && s) || (e && t)) ≡ ((a || (t || false)) && s)
one_more true true true true same = refl
one_more true true true false same = refl
one_more true true false true same = refl
one_more true true false false same = refl
one_more true false true true same = sym (same refl)
one_more true false true false same = refl
one_more true false false true same = refl
one_more true false false false same = refl
one_more false true true true same = refl
one_more false true true false same = refl
one_more false true false true same = sym (same refl)
one_more false true false false same = refl
one_more false false true true same = sym (same refl)
one_more false false true false same = refl
one_more false false false true same = refl
one_more false false false false same = refl

among_chosen : (b : Bool) (id q : List ℕ) → is_among (cond b (id ∷ []) []) q ≡ (b && bytes_eq id q)
among_chosen true id q = go (bytes_eq id q)
  where
    go : (b : Bool) → (b || false) ≡ b
    go true = refl
    go false = refl
among_chosen false id q = refl

among_pushed : (gone : List (List ℕ)) (id q : List ℕ) → is_among (gone ++ id ∷ []) q ≡ (is_among gone q || (bytes_eq id q || false))
among_pushed gone id q = list_any-append (λ other. bytes_eq other q) gone (id ∷ [])

stood_same : (items : List Feature) (collection : List ℕ) (cut : Cut) (k : ℤ) (id q : List ℕ) (e : Bool) → stood_in items collection cut k id ≡ e → bytes_eq id q ≡ true → stood_in items collection cut k q ≡ e
stood_same items collection cut k id q e is same = ap (stood_in items collection cut k) (sym (same_text id q same)) ∙ is

pub departed : (items : List Feature) (collection : List ℕ) (cut : Cut) (gone : List (List ℕ)) (come : List Feature) (old new : BTreeMap ℤ Group) (id : List ℕ) (key : ℤ)
    → ((k : ℤ) → stood_in items collection cut k id ≡ is_eq (int_cmp key k))
    → ((k : ℤ) → come_in (get int_cmp new k) ≡ come_in (get int_cmp old k))
    → ((k : ℤ) → gone_in (get int_cmp new k) ≡ gone_in (get int_cmp old k) ++ cond (is_eq (int_cmp key k)) (id ∷ []) [])
    → ((k : ℤ) → is_some (get int_cmp new k) ≡ (is_eq (int_cmp key k) || is_some (get int_cmp old k)))
    → AreGrouped items collection cut gone come old → AreGrouped items collection cut (gone ++ id ∷ []) come new
departed items collection cut gone come old new id key stood comes goes some are = record {
  come_is = λ k. comes k ∙ are.come_is k;
  gone_is = λ k q.
      let e = is_eq (int_cmp key k) in
      let s = stood_in items collection cut k q in
      ap (λ l. is_among l q) (goes k) ∙ (list_any-append (λ other. bytes_eq other q) (gone_in (get int_cmp old k)) (cond e (id ∷ []) [])
      ∙ (ap (λ b. b || is_among (cond e (id ∷ []) []) q) (are.gone_is k q) ∙ (ap (λ b. (is_among gone q && s) || b) (among_chosen e id q)
      ∙ (one_more (is_among gone q) s e (bytes_eq id q) (stood_same items collection cut k id q e (stood k)) ∙ ap (λ b. b && s) (sym (among_pushed gone id q))))));
  some = λ k.
      let p = fits (name_at collection cut k) in
      let s = stood_in items collection cut k in
      some k ∙ (ap (λ b. is_eq (int_cmp key k) || b) (are.some k) ∙ (or_end (list_any p come) (list_any s gone) (is_eq (int_cmp key k))
      ∙ (ap (λ b. list_any p come || (list_any s gone || (b || false))) (sym (stood k)) ∙ ap (λ b. list_any p come || b) (sym (list_any-append s gone (id ∷ []))))));
}

or_none : (a b : Bool) → (a || b) ≡ (a || (b || (false || false)))
or_none true b = refl
or_none false true = refl
or_none false false = refl

pub not_departed : (items : List Feature) (collection : List ℕ) (cut : Cut) (gone : List (List ℕ)) (come : List Feature) (groups : BTreeMap ℤ Group) (id : List ℕ)
    → ((k : ℤ) → stood_in items collection cut k id ≡ false) → AreGrouped items collection cut gone come groups → AreGrouped items collection cut (gone ++ id ∷ []) come groups
not_departed items collection cut gone come groups id stood are = record {
  come_is = are.come_is;
  gone_is = λ k q.
      let s = stood_in items collection cut k q in
      are.gone_is k q ∙ (without (is_among gone q && s) ∙ (one_more (is_among gone q) s false (bytes_eq id q) (stood_same items collection cut k id q false (stood k)) ∙ ap (λ b. b && s) (sym (among_pushed gone id q))));
  some = λ k.
      let p = fits (name_at collection cut k) in
      let s = stood_in items collection cut k in
      are.some k ∙ (or_none (list_any p come) (list_any s gone) ∙ (ap (λ b. list_any p come || (list_any s gone || (b || false))) (sym (stood k)) ∙ ap (λ b. list_any p come || b) (sym (list_any-append s gone (id ∷ [])))));
}
  where
    without : (b : Bool) → b ≡ (b || (false && false))
    without true = refl
    without false = refl

-- the item that is found with an id
pub stood_found : (items : List Feature) (collection : List ℕ) (cut : Cut) (k : ℤ) (id : List ℕ) (item : Feature) → Some item ≡ item_in items collection id → stood_in items collection cut k id ≡ fits (name_at collection cut k) item
stood_found items collection cut k id item e = ap (is_found_in (name_at collection cut k)) (sym e)

pub stood_nowhere : (items : List Feature) (collection : List ℕ) (cut : Cut) (k : ℤ) (id : List ℕ) → None ≡ item_in items collection id → stood_in items collection cut k id ≡ false
stood_nowhere items collection cut k id e = ap (is_found_in (name_at collection cut k)) (sym e)

pub found_own : (items : List Feature) (collection id : List ℕ) (item : Feature) → Some item ≡ item_in items collection id → All (λ i. IsItemOf i.collection i) items → (item.collection ≡ collection) × IsItemOf collection item
found_own items collection id item e all =
    let both = and_parts (bytes_eq item.collection collection) (bytes_eq item.id id) (find_some (is_item collection id) items item (sym e)) in
    let of = same_text item.collection collection both.0 in
    (of, subst (λ c. IsItemOf c item) of (All-contains (λ i. IsItemOf i.collection i) items item all (find_contained (is_item collection id) items item (sym e))))

-- ---- lists by places

pub items_more : (xs : List (Arc Feature Global)) (at : ℕ) (x : Arc Feature Global) → at < length xs → x ≡ get_or xs at x → map arc_value (take (at + 1) xs) ≡ map arc_value (take at xs) ++ arc_value x ∷ []
items_more xs at x lt is = ap (map arc_value) (take_more xs at x lt ∙ ap (λ y. take at xs ++ y ∷ []) (sym is)) ∙ mapped (take at xs)
  where
    mapped : (l : List (Arc Feature Global)) → map arc_value (l ++ x ∷ []) ≡ map arc_value l ++ arc_value x ∷ []
    mapped [] = refl
    mapped (y ∷ l) = ap (λ r. arc_value y ∷ r) (mapped l)

pub item_at : (P : Feature → Type 0) (xs : List (Arc Feature Global)) (at : ℕ) (x : Arc Feature Global) → AllByRecursion P (map arc_value xs) → at < length xs → x ≡ get_or xs at x → P (arc_value x)
item_at P [] at x all lt is = absurd (omega (arith, lt))
item_at P (y ∷ xs) zero x all lt is = subst (λ (z : Arc Feature Global). P (arc_value z)) (sym is) all.0
item_at P (y ∷ xs) (suc at) x all lt is = item_at P xs at x all.1 (omega (arith, lt)) is

-- an item put into the group of a key
pub put_in : (old mid new : ℤ → Option Group) (before after : Group) (key k : ℤ) (item : Feature) → mid key ≡ Some before → new k ≡ cond (is_eq (int_cmp key k)) (Some after) (mid k)
    → map arc_value after.come.items ≡ map arc_value before.come.items ++ item ∷ [] → come_in (mid k) ≡ come_in (old k) → come_in (new k) ≡ come_in (old k) ++ cond (is_eq (int_cmp key k)) (item ∷ []) []
put_in old mid new before after key k item was put pushed same = go (is_eq (int_cmp key k)) refl put
  where
    none : (l : List Feature) → l ≡ l ++ []
    none [] = refl
    none (x ∷ l) = ap (λ r. x ∷ r) (none l)

    go : (b : Bool) → is_eq (int_cmp key k) ≡ b → new k ≡ cond b (Some after) (mid k) → come_in (new k) ≡ come_in (old k) ++ cond b (item ∷ []) []
    go false e is = ap come_in is ∙ (same ∙ none (come_in (old k)))
    go true e is =
        let here : k ≡ key = (Decides-int_eq k key).0 (key_test k key ∙ e) in
        ap come_in is ∙ (pushed ∙ ap (λ l. l ++ item ∷ []) (ap come_in (sym was) ∙ (ap (λ q. come_in (mid q)) (sym here) ∙ same)))

pub mapped_push : (l : List (Arc Feature Global)) (x : Arc Feature Global) (value : Feature) → arc_value x ≡ value → map arc_value (l ++ x ∷ []) ≡ map arc_value l ++ value ∷ []
mapped_push [] x value e = ap (λ v. v ∷ []) e
mapped_push (y ∷ l) x value e = ap (λ r. arc_value y ∷ r) (mapped_push l x value e)

-- a group put under a key
pub some_put : (b : Bool) (group : Group) (old new : Option Group) → new ≡ cond b (Some group) old → is_some new ≡ (b || is_some old)
some_put true group old new e = ap is_some e
some_put false group old new e = ap is_some e
