-- A load that isn't refused makes a content of a content.
use Rattle.std.proofs.Common.{◌≡◌, ℕ, Bool, true, false, not, cond, ◌&&◌, ◌||◌, ◌⊎◌, inl, inr, List, [], ◌∷◌, ◌++◌, map, filter, find, Option, Some, None, refl, sym, ap, ◌∙◌, subst, bytes_eq, option_map}
use Rattle.std.specs.List.{AllByRecursion, All, AllPairs, list_any}
use Rattle.std.specs.Arc.{arc_value}
use Rattle.std.proofs.lemmas.Bool.{and_parts, and_from, or_parts}
use Rattle.std.proofs.lemmas.List.Elements.{recursion_from_All, All-from_recursion, All-filter, All-push}
use Rattle.sqlite_trees.specs.Tree.{IsAscending}
use Rattle.sqlite_keyed.proofs.ListLemmas.{all_weaker, all_both, all-filter, all-append, ascending-filter, ascending-append, ascending_weaker, ascending_from_map, none_from_any}
use Rattle.sc_json.specs.declared.tree.Json.{Json}
use Rattle.sc_item.specs.Feature.{Feature}
use Rattle.sc_item.specs.Names.{HaveOneName, AreApart}
use Rattle.sc_cut.specs.declared.cut.Cut.{Cut}
use Rattle.sc_load.specs.declared.load.Load.{Load}
use Rattle.sc_load.specs.declared.load.Load.TheVariants.{AddCollection, DropCollection, Insert, Upsert, Replace, Patch, Delete}
use Rattle.sc_load.specs.declared.fault.LoadFault.{LoadFault}
use Rattle.sc_load.specs.declared.fault.LoadFault.TheVariants.{NoCollection, ItemExists, DuplicateInLoad, CollectionExists}
use Rattle.sc_load.specs.Load.{collection_of, IsItemOf, IsDescribed, IsWellFormed}
use Rattle.sc_load.proofs.Again.{reads_again}
use Rattle.sc_history.specs.Content.{Collection, Content, IsContent, nothing, is_called, is_made, is_item, has_item}
use Rattle.sc_history.specs.Changes.{Change, Patches, Puts, apply, collections_after, goes, ids_of, is_among, takes}
use Rattle.sc_history.specs.Refusals.{IsAllowed, an_id_is_twice, an_item_exists, first_there, first_twice, no_such_item, or_else, plain_fault, unless}
use Rattle.sc_history.proofs.Texts.{same_text, text_test, text_self, text_turn, or_true, never}
use Rattle.sc_history.proofs.Lists.{ascending_from_pairs, pairs_from_ascending, all_passing}

-- ---- what no fault says

fault_none : {R : Type 0} (fault : LoadFault) → Some fault ≡ None → R
fault_none fault e = absurd cc

or_none : (a b : Option LoadFault) → or_else a b ≡ None → (a ≡ None) × (b ≡ None)
or_none None b e = (refl, e)
or_none (Some fault) b e = fault_none fault e

unless_none : (t : Bool) (fault : LoadFault) → unless t fault ≡ None → t ≡ true
unless_none true fault e = refl
unless_none false fault e = fault_none fault e

when_none : (t : Bool) (fault : LoadFault) → cond t (Some fault) None ≡ None → t ≡ false
when_none true fault e = fault_none fault e
when_none false fault e = refl

map_none : {A : Type 0} (f : A → LoadFault) (o : Option A) → option_map f o ≡ None → o ≡ None
map_none f None e = refl
map_none f (Some x) e = fault_none (f x) e

find_none : {A : Type 0} (p : A → Bool) (xs : List A) → find p xs ≡ None → AllByRecursion (λ x. p x ≡ false) xs
find_none p [] e = tt
find_none p (x ∷ xs) e = go (p x) refl (find_none p xs) e
  where
    go : (b : Bool) → p x ≡ b → (find p xs ≡ None → AllByRecursion (λ y. p y ≡ false) xs) → cond b (Some x) (find p xs) ≡ None → AllByRecursion (λ y. p y ≡ false) (x ∷ xs)
    go true is more e = absurd cc
    go false is more e = (is, more e)

pub find_some : {A : Type 0} (p : A → Bool) (xs : List A) (x : A) → find p xs ≡ Some x → p x ≡ true
find_some p [] x e = absurd cc
find_some p (y ∷ xs) x e = go (p y) refl (find_some p xs x) e
  where
    go : (b : Bool) → p y ≡ b → (find p xs ≡ Some x → p x ≡ true) → cond b (Some y) (find p xs) ≡ Some x → p x ≡ true
    go true is more e = let same : y ≡ x = cc in subst (λ z. p z ≡ true) same is
    go false is more e = more e

some_text : (a : List ℕ) → Some a ≡ None → ⊥
some_text a e = absurd cc

twice_none : (before ids : List (List ℕ)) → first_twice before ids ≡ None → AllByRecursion (λ id. is_among before id ≡ false) ids × IsAscending (λ a b. bytes_eq a b ≡ false) ids
unfolding first_twice
twice_none before [] e = (tt, tt)
twice_none before (id ∷ ids) e = go (is_among before id) refl (twice_none (id ∷ before) ids) e
  where
    go : (t : Bool) → is_among before id ≡ t
        → (first_twice (id ∷ before) ids ≡ None → AllByRecursion (λ other. is_among (id ∷ before) other ≡ false) ids × IsAscending (λ a b. bytes_eq a b ≡ false) ids)
        → cond t (Some id) (first_twice (id ∷ before) ids) ≡ None → AllByRecursion (λ other. is_among before other ≡ false) (id ∷ ids) × IsAscending (λ a b. bytes_eq a b ≡ false) (id ∷ ids)
    go true is more e = absurd (some_text id e)
    go false is more e =
        let both = more e in (
          (is, all_weaker (λ other. is_among (id ∷ before) other ≡ false) (λ other. is_among before other ≡ false) (λ other h. (or_parts (bytes_eq id other) (is_among before other) h).1) ids both.0),
          (all_weaker (λ other. is_among (id ∷ before) other ≡ false) (λ other. bytes_eq id other ≡ false) (λ other h. (or_parts (bytes_eq id other) (is_among before other) h).0) ids both.0, both.1),
        )

-- ---- what a load puts

abbrev pub IsOwn : List ℕ → Feature → Type 0
IsOwn collection item = (item.collection ≡ collection) × IsItemOf collection item

own : (collection : List ℕ) (item : Feature) → IsItemOf collection item → IsOwn collection item
own collection item is = (is.collection_is, is)

all_own : (collection : List ℕ) (items come : List Feature) → come ≡ items → All (IsItemOf collection) items → AllByRecursion (IsOwn collection) come
all_own collection items come is all = subst (AllByRecursion (IsOwn collection)) (sym is) (all_weaker (IsItemOf collection) (IsOwn collection) (own collection) items (recursion_from_All (IsItemOf collection) items all))

none_own : (collection : List ℕ) (come : List Feature) → come ≡ [] → AllByRecursion (IsOwn collection) come
none_own collection come is = subst (AllByRecursion (IsOwn collection)) (sym is) tt

patched_own : (items : List Feature) (collection id : List ℕ) (patch : Json) (come : List Feature) → Patches items collection id patch come → AllByRecursion (IsOwn collection) come
patched_own items collection id patch come p =
    let found = and_parts (bytes_eq p.old.collection collection) (bytes_eq p.old.id id) (find_some (is_item collection id) items p.old p.there) in
    let same : p.old.collection ≡ collection = same_text p.old.collection collection found.0 in
    let new : IsItemOf collection p.new = subst (λ c. IsItemOf c p.new) same (reads_again p.old.collection p.patched.merged p.new p.patched.item_is) in
    subst (AllByRecursion (IsOwn collection)) (sym p.come_is) (own collection p.new new, tt)

-- the items that a load puts are of its collection, and each is what its own tree is there
pub puts_own : (items : List Feature) (load : Load) (come : List Feature) → IsWellFormed load → Puts items load come → AllByRecursion (IsOwn (collection_of load)) come
puts_own items (AddCollection id cut tree) come w p = none_own id come p
puts_own items (DropCollection id) come w p = none_own id come p
puts_own items (Insert collection new) come w p = all_own collection (map arc_value new) come p w.each
puts_own items (Upsert collection new) come w p = all_own collection (map arc_value new) come p w.each
puts_own items (Replace collection item) come w p = subst (AllByRecursion (IsOwn collection)) (sym p) (own collection (arc_value item) w, tt)
puts_own items (Patch collection id patch) come w p = patched_own items collection id patch come p
puts_own items (Delete collection id) come w p = none_own collection come p

-- they have different ids
abbrev Differ : Feature → Feature → Type 0
Differ a b = bytes_eq a.id b.id ≡ false

none_twice : (new come : List Feature) → come ≡ new → an_id_is_twice new ≡ None → IsAscending Differ come
none_twice new come is e =
    subst (IsAscending Differ) (sym is) (ascending_from_map (λ a b. bytes_eq a b ≡ false) (λ i. i.id) new (twice_none [] (ids_of new) (map_none DuplicateInLoad (first_twice [] (ids_of new)) e)).1)

one_differs : (new : Feature) (come : List Feature) → come ≡ new ∷ [] → IsAscending Differ come
one_differs new come is = subst (IsAscending Differ) (sym is) (tt, tt)

none_differ : (come : List Feature) → come ≡ [] → IsAscending Differ come
none_differ come is = subst (IsAscending Differ) (sym is) tt

puts_differ : (content : Content) (load : Load) (come : List Feature) → plain_fault content load ≡ None → Puts content.items load come → IsAscending Differ come
puts_differ content (AddCollection id cut tree) come e p = none_differ come p
puts_differ content (DropCollection id) come e p = none_differ come p
puts_differ content (Insert collection new) come e p =
    let rest = (or_none (unless (is_made content.collections collection) NoCollection) _ e).1 in
    none_twice (map arc_value new) come p (or_none (an_item_exists content.items collection (map arc_value new)) (an_id_is_twice (map arc_value new)) rest).1
puts_differ content (Upsert collection new) come e p = none_twice (map arc_value new) come p (or_none (unless (is_made content.collections collection) NoCollection) (an_id_is_twice (map arc_value new)) e).1
puts_differ content (Replace collection item) come e p = one_differs (arc_value item) come p
puts_differ content (Patch collection id patch) come e p = one_differs p.new come p.come_is
puts_differ content (Delete collection id) come e p = none_differ come p

-- each stands in the place of one that is taken, or of none
abbrev IsFree : List Feature → Load → Feature → Type 0
IsFree items load item = (takes load item.id ≡ true) ⊎ (has_item items (collection_of load) item.id ≡ false)

all_among : (items : List Feature) → AllByRecursion (λ i. is_among (ids_of items) i.id ≡ true) items
all_among [] = tt
all_among (x ∷ items) =
    (rw (text_self x.id) refl, all_weaker (λ i. is_among (ids_of items) i.id ≡ true) (λ i. is_among (ids_of (x ∷ items)) i.id ≡ true) (λ i h. or_true (bytes_eq x.id i.id) (is_among (ids_of items) i.id) h) items (all_among items))

same_id : (a b : List ℕ) → a ≡ b → is_among (a ∷ []) b ≡ true
same_id a b e = rw (text_test a b e) refl

puts_free : (content : Content) (load : Load) (come : List Feature) → plain_fault content load ≡ None → Puts content.items load come → AllByRecursion (IsFree content.items load) come
puts_free content (AddCollection id cut tree) come e p = subst (AllByRecursion (IsFree content.items (AddCollection id cut tree))) (sym p) tt
puts_free content (DropCollection id) come e p = subst (AllByRecursion (IsFree content.items (DropCollection id))) (sym p) tt
puts_free content (Insert collection new) come e p =
    let rest = (or_none (unless (is_made content.collections collection) NoCollection) _ e).1 in
    let fresh = (or_none (an_item_exists content.items collection (map arc_value new)) (an_id_is_twice (map arc_value new)) rest).0 in
    let none = find_none (λ i. has_item content.items collection i.id) (map arc_value new) (map_none (λ i. ItemExists i.id) (first_there content.items collection (map arc_value new)) fresh) in
    subst (AllByRecursion (IsFree content.items (Insert collection new))) (sym p)
    (all_weaker (λ i. has_item content.items collection i.id ≡ false) (IsFree content.items (Insert collection new)) (λ i h. inr h) (map arc_value new) none)
puts_free content (Upsert collection new) come e p =
    subst (AllByRecursion (IsFree content.items (Upsert collection new))) (sym p)
    (all_weaker (λ i. is_among (ids_of (map arc_value new)) i.id ≡ true) (IsFree content.items (Upsert collection new)) (λ i h. inl h) (map arc_value new) (all_among (map arc_value new)))
puts_free content (Replace collection item) come e p =
    subst (AllByRecursion (IsFree content.items (Replace collection item))) (sym p) (inl (same_id (arc_value item).id (arc_value item).id refl), tt)
puts_free content (Patch collection id patch) come e p =
    let found = and_parts (bytes_eq p.old.collection collection) (bytes_eq p.old.id id) (find_some (is_item collection id) content.items p.old p.there) in
    let same : id ≡ p.new.id = sym (same_text p.old.id id found.1) ∙ sym p.patched.id_is in
    subst (AllByRecursion (IsFree content.items (Patch collection id patch))) (sym p.come_is) (inl (same_id id p.new.id same), tt)
puts_free content (Delete collection id) come e p = subst (AllByRecursion (IsFree content.items (Delete collection id))) (sym p) tt

-- ---- no two items have one name

abbrev Apart : Feature → Feature → Type 0
Apart a b = HaveOneName a b → ⊥

differ_apart : (a b : Feature) → Differ a b → Apart a b
differ_apart a b e h = never (bytes_eq a.id b.id) (text_test a.id b.id h.1) e

-- what a load puts is apart from what it leaves
left_apart : (items : List Feature) (load : Load) (a b : Feature) → a.collection ≡ collection_of load → IsFree items load a → goes load b ≡ false → is_item a.collection a.id b ≡ false ⊎ (takes load a.id ≡ true) → Apart a b
left_apart items load a b same free stays (inl other) h = never (is_item a.collection a.id b) (and_from (bytes_eq b.collection a.collection) (bytes_eq b.id a.id) (text_test b.collection a.collection (sym h.0)) (text_test b.id a.id (sym h.1))) other
left_apart items load a b same free stays (inr taken) h =
    never (goes load b) (and_from (bytes_eq b.collection (collection_of load)) (takes load b.id) (text_test b.collection (collection_of load) (sym h.0 ∙ same)) (subst (λ id. takes load id ≡ true) h.1 taken)) stays

each_left : (items : List Feature) (load : Load) (a : Feature) → a.collection ≡ collection_of load → IsFree items load a → AllByRecursion (Apart a) (filter (λ b. not (goes load b)) items)
each_left items load a same free = go free
  where
    stays : AllByRecursion (λ b. not (goes load b) ≡ true) (filter (λ b. not (goes load b)) items)
    stays = all_passing (λ b. not (goes load b)) items

    left : (b : Bool) → not b ≡ true → b ≡ false
    left true e = sym e
    left false e = refl

    go : IsFree items load a → AllByRecursion (Apart a) (filter (λ b. not (goes load b)) items)
    go (inl taken) = all_weaker (λ b. not (goes load b) ≡ true) (Apart a) (λ b k. left_apart items load a b same free (left (goes load b) k) (inr taken)) _ stays
    go (inr none) =
        let others = all-filter (λ b. is_item (collection_of load) a.id b ≡ false) (λ b. not (goes load b)) items (none_from_any (is_item (collection_of load) a.id) items none) in
        all_both (λ b. not (goes load b) ≡ true) (λ b. is_item (collection_of load) a.id b ≡ false) (Apart a)
        (λ b k other. left_apart items load a b same free (left (goes load b) k) (inl (subst (λ c. is_item c a.id b ≡ false) (sym same) other))) _ stays others

items_apart : (content : Content) (change : Change) → IsAllowed content change → AreApart content.items → AreApart (apply content change).items
items_apart content change t apart =
    let load = change.load in
    let owned = puts_own content.items load change.come t.formed t.puts in
    let come = ascending_weaker Differ Apart differ_apart change.come (puts_differ content load change.come t.no_fault t.puts) in
    let left = ascending-filter Apart (λ b. not (goes load b)) content.items (ascending_from_pairs Apart content.items apart) in
    let across = all_both (IsOwn (collection_of load)) (IsFree content.items load) (λ a. AllByRecursion (Apart a) (filter (λ b. not (goes load b)) content.items))
    (λ a o free. each_left content.items load a o.0 free) change.come owned (puts_free content load change.come t.no_fault t.puts) in
    pairs_from_ascending Apart _ (ascending-append Apart change.come _ come left across)

-- ---- each item is of a collection that is there

made_more : (collections : List Collection) (new : Collection) (id : List ℕ) → is_made collections id ≡ true → is_made (collections ++ new ∷ []) id ≡ true
made_more [] new id e = never false e refl
made_more (c ∷ collections) new id e = go (is_called id c) (made_more collections new id) e
  where
    go : (b : Bool) → (is_made collections id ≡ true → is_made (collections ++ new ∷ []) id ≡ true) → (b || is_made collections id) ≡ true → (b || is_made (collections ++ new ∷ []) id) ≡ true
    go true more e = refl
    go false more e = more e

-- dropping a collection leaves the others
pub dropped : (test : Collection → Bool) (id : List ℕ) (collections : List Collection) → ((c : Collection) → is_called id c ≡ true → test c ≡ false) → list_any test (filter (λ c. not (is_called id c)) collections) ≡ list_any test collections
dropped test id [] other = refl
dropped test id (c ∷ collections) other = go (is_called id c) refl (dropped test id collections other)
  where
    go : (b : Bool) → is_called id c ≡ b → list_any test (filter (λ d. not (is_called id d)) collections) ≡ list_any test collections
        → list_any test (cond (not b) (c ∷ filter (λ d. not (is_called id d)) collections) (filter (λ d. not (is_called id d)) collections)) ≡ (test c || list_any test collections)
    go true is more = rw (other c is) more
    go false is more = ap (λ t. test c || t) more

pub called_other : (one other : List ℕ) (c : Collection) → bytes_eq other one ≡ false → is_called one c ≡ true → is_called other c ≡ false
called_other one other c differ is = rw (same_text c.id one is) (text_turn one other ∙ differ)

-- the collection of an item that stays is still there
still_made : (collections : List Collection) (load : Load) (item : Feature) → is_made collections item.collection ≡ true → goes load item ≡ false → is_made (collections_after collections load) item.collection ≡ true
still_made collections (AddCollection id cut tree) item made stays = made_more collections (record { id = id; cut = cut; tree = tree }) item.collection made
still_made collections (DropCollection id) item made stays =
    let other : bytes_eq item.collection id ≡ false = whole (bytes_eq item.collection id) stays in
    dropped (is_called item.collection) id collections (λ c is. called_other id item.collection c other is) ∙ made
  where
    whole : (b : Bool) → (b && true) ≡ false → b ≡ false
    whole true e = e
    whole false e = e
still_made collections (Insert collection new) item made stays = made
still_made collections (Upsert collection new) item made stays = made
still_made collections (Replace collection new) item made stays = made
still_made collections (Patch collection id patch) item made stays = made
still_made collections (Delete collection id) item made stays = made

abbrev IsHoused : List Collection → Feature → Type 0
IsHoused collections item = is_made collections item.collection ≡ true

there_is : (content : Content) (collection id : List ℕ) → no_such_item content collection id ≡ None → is_made content.collections collection ≡ true
there_is content collection id e = unless_none (is_made content.collections collection) NoCollection (or_none (unless (is_made content.collections collection) NoCollection) _ e).0

-- so is that of an item that comes
come_housed : (content : Content) (load : Load) (come : List Feature) → plain_fault content load ≡ None → Puts content.items load come → AllByRecursion (IsOwn (collection_of load)) come → AllByRecursion (IsHoused (collections_after content.collections load)) come
come_housed content (AddCollection id cut tree) come e p owned = subst (AllByRecursion (IsHoused (collections_after content.collections (AddCollection id cut tree)))) (sym p) tt
come_housed content (DropCollection id) come e p owned = subst (AllByRecursion (IsHoused (collections_after content.collections (DropCollection id)))) (sym p) tt
come_housed content (Insert collection new) come e p owned =
    let made = unless_none (is_made content.collections collection) NoCollection (or_none (unless (is_made content.collections collection) NoCollection) _ e).0 in
    all_weaker (IsOwn collection) (IsHoused content.collections) (λ i o. subst (λ c. is_made content.collections c ≡ true) (sym o.0) made) come owned
come_housed content (Upsert collection new) come e p owned =
    let made = unless_none (is_made content.collections collection) NoCollection (or_none (unless (is_made content.collections collection) NoCollection) _ e).0 in
    all_weaker (IsOwn collection) (IsHoused content.collections) (λ i o. subst (λ c. is_made content.collections c ≡ true) (sym o.0) made) come owned
come_housed content (Replace collection item) come e p owned =
    let made = there_is content collection (arc_value item).id e in
    all_weaker (IsOwn collection) (IsHoused content.collections) (λ i o. subst (λ c. is_made content.collections c ≡ true) (sym o.0) made) come owned
come_housed content (Patch collection id patch) come e p owned =
    let made = there_is content collection id e in
    all_weaker (IsOwn collection) (IsHoused content.collections) (λ i o. subst (λ c. is_made content.collections c ≡ true) (sym o.0) made) come owned
come_housed content (Delete collection id) come e p owned = subst (AllByRecursion (IsHoused content.collections)) (sym p) tt

stay_false : (b : Bool) → not b ≡ true → b ≡ false
stay_false true e = sym e
stay_false false e = refl

items_housed : (content : Content) (change : Change) → IsAllowed content change → All (IsHoused content.collections) content.items → All (IsHoused (apply content change).collections) (apply content change).items
items_housed content change t housed =
    let load = change.load in
    let after = collections_after content.collections load in
    let owned = puts_own content.items load change.come t.formed t.puts in
    let before = all-filter (IsHoused content.collections) (λ b. not (goes load b)) content.items (recursion_from_All (IsHoused content.collections) content.items housed) in
    let left = all_both (IsHoused content.collections) (λ b. not (goes load b) ≡ true) (IsHoused after) (λ b made k. still_made content.collections load b made (stay_false (goes load b) k)) _ before (all_passing (λ b. not (goes load b)) content.items) in
    All-from_recursion (IsHoused after) _ (all-append (IsHoused after) change.come _ (come_housed content load change.come t.no_fault t.puts owned) left)

-- ---- each item is what its own tree is

abbrev IsRead : Feature → Type 0
IsRead item = IsItemOf item.collection item

items_read : (content : Content) (change : Change) → IsAllowed content change → All IsRead content.items → All IsRead (apply content change).items
items_read content change t read =
    let load = change.load in
    let owned = puts_own content.items load change.come t.formed t.puts in
    let come = all_weaker (IsOwn (collection_of load)) IsRead (λ i o. subst (λ c. IsItemOf c i) (sym o.0) o.1) change.come owned in
    let left = all-filter IsRead (λ b. not (goes load b)) content.items (recursion_from_All IsRead content.items read) in
    All-from_recursion IsRead _ (all-append IsRead change.come _ come left)

-- ---- no two collections have one id

abbrev AreTwo : Collection → Collection → Type 0
AreTwo a b = bytes_eq a.id b.id ≡ false

collections_apart : (content : Content) (load : Load) → plain_fault content load ≡ None → AllPairs AreTwo content.collections → AllPairs AreTwo (collections_after content.collections load)
collections_apart content (AddCollection id cut tree) e apart =
    let new : Collection = record { id = id; cut = cut; tree = tree } in
    let none = none_from_any (is_called id) content.collections (when_none (is_made content.collections id) CollectionExists e) in
    pairs_from_ascending AreTwo _ (ascending-append AreTwo content.collections (new ∷ []) (ascending_from_pairs AreTwo content.collections apart) (tt, tt)
    (all_weaker (λ c. is_called id c ≡ false) (λ c. AllByRecursion (AreTwo c) (new ∷ [])) (λ c h. (h, tt)) content.collections none))
collections_apart content (DropCollection id) e apart = pairs_from_ascending AreTwo _ (ascending-filter AreTwo (λ c. not (is_called id c)) content.collections (ascending_from_pairs AreTwo content.collections apart))
collections_apart content (Insert collection new) e apart = apart
collections_apart content (Upsert collection new) e apart = apart
collections_apart content (Replace collection new) e apart = apart
collections_apart content (Patch collection id patch) e apart = apart
collections_apart content (Delete collection id) e apart = apart

-- ---- each collection is what its document describes

abbrev IsTold : Collection → Type 0
IsTold c = IsDescribed c.id c.cut c.tree

collections_described : (collections : List Collection) (load : Load) → IsWellFormed load → All IsTold collections → All IsTold (collections_after collections load)
collections_described collections (AddCollection id cut tree) w all = All-push IsTold collections (record { id = id; cut = cut; tree = tree }) all w
collections_described collections (DropCollection id) w all = All-filter (λ c. not (is_called id c)) IsTold collections all
collections_described collections (Insert collection new) w all = all
collections_described collections (Upsert collection new) w all = all
collections_described collections (Replace collection new) w all = all
collections_described collections (Patch collection id patch) w all = all
collections_described collections (Delete collection id) w all = all

-- a collection that is added wasn't there
pub new_made : (content : Content) (id : List ℕ) (cut : Cut) (tree : Json) → plain_fault content (AddCollection id cut tree) ≡ None → is_made content.collections id ≡ false
new_made content id cut tree e = when_none (is_made content.collections id) CollectionExists e

-- ---- a content

pub content_after : (content : Content) (change : Change) → IsAllowed content change → IsContent content → IsContent (apply content change)
content_after content change t is = record {
  collections_apart = collections_apart content change.load t.no_fault is.collections_apart;
  described = collections_described content.collections change.load t.formed is.described;
  items_apart = items_apart content change t is.items_apart;
  housed = items_housed content change t is.housed;
  read = items_read content change t is.read;
}

pub content_nothing : IsContent nothing
content_nothing = record {
  collections_apart = pairs_from_ascending AreTwo [] tt;
  described = All-from_recursion IsTold [] tt;
  items_apart = pairs_from_ascending Apart [] tt;
  housed = All-from_recursion (IsHoused []) [] tt;
  read = All-from_recursion IsRead [] tt;
}
