-- What the steps of a publish answer, as the faults for which the history refuses the load, or as what the load leaves.
use Rattle.std.proofs.Common.{◌≡◌, ◌≤◌, ◌<◌, ◌+◌, ◌-◌, ◌^◌, ℕ, min, Bool, true, false, cond, List, [], length, map, find, Option, Some, None, Err, refl, sym, ap, ◌∙◌, subst, option_map}
use Rattle.std.specs.Prelude.{IfSome}
use Rattle.std.specs.Option.{is_some}
use Rattle.std.specs.List.{All, sum_by}
use Rattle.std.specs.Arc.{arc_value}
use Rattle.std.proofs.lemmas.List.{length-map}
use Rattle.std.proofs.lemmas.List.Elements.{All-from_recursion}
use Rattle.sqlite_keyed.proofs.ListLemmas.{all_weaker}
use Rattle.sc_json.specs.declared.tree.Json.{Json}
use Rattle.sc_item.specs.Feature.{Feature}
use Rattle.sc_cut.specs.declared.cut.Cut.{Cut}
use Rattle.sc_load.specs.declared.load.Load.{Load}
use Rattle.sc_load.specs.declared.load.Load.TheVariants.{AddCollection, DropCollection, Insert, Upsert, Replace, Patch, Delete}
use Rattle.sc_load.specs.declared.fault.LoadFault.{LoadFault}
use Rattle.sc_load.specs.declared.fault.LoadFault.TheVariants.{NoCollection, CollectionExists, ItemExists, NoItem, DuplicateInLoad, BadPatch, HistoryFull, PartitionsFull, CollectionsFull, OutOfMemory}
use Rattle.sc_load.specs.Load.{IsItemOf, collection_of, size_of}
use Rattle.sc_history.specs.Content.{Collection, Content, is_called, is_made, has_item}
use Rattle.sc_history.specs.Changes.{Change, apply, collections_after, ids_of}
use Rattle.sc_history.specs.History.{replay}
use Rattle.sc_history.specs.Names.{ArePartsOf}
use Rattle.sc_history.specs.Refusals.{HasFewCollections, HasFewParts, HasRoom, IsAllowed, IsRefused, an_id_is_twice, an_item_exists, bytes_with, first_there, first_twice, no_such_item, or_else, plain_fault, told, unless}
use Rattle.sc_history.specs.Taken.{IsPast}
use Rattle.sc_history.specs.Part.{Part}
use Rattle.sc_history.specs.Touch.{ArePublished}
use Rattle.sc_history.specs.Sound.{Stand}
use Rattle.sc_history.proofs.Texts.{never}
use Rattle.sc_history.proofs.Contents.{IsOwn, puts_own}
use Rattle.sc_history.proofs.Limits.{few_bytes, few_entries}
use Rattle.sc_history.proofs.Lawful.{parts_after_load}
use Rattle.sc_catalog.specs.Answers.{AnswersCollections, AnswersCome, AnswersFull, AnswersParts, IsTold}
use Rattle.sc_catalog.specs.Kept.{AreAfter, IsCutAt, IsReadyAt, Reflects, change_of}
use Rattle.sc_catalog.specs.Made.{is_of_items}
use Rattle.sc_index.specs.declared.index.ItemIndex.{ItemIndex}
use Rattle.sc_shelf.specs.Changed.{AreWithout}
use Rattle.sc_shelf.proofs.Publishing.{drop_publishes}
use Rattle.sc_catalog.specs.declared.parts.PartsAfter.{PartsAfter}
use Rattle.sc_catalog.proofs.Dropping.{add_names, add_publishes, drop_names}
use Rattle.sc_catalog.proofs.Looking.{some_found, some_mapped}
use Rattle.sc_catalog.proofs.Overfull.{bytes_more, overfills}

-- whether the collection is there
pub some_made : {A : Type 0} (see : A → Collection) (o : Option A) (collections : List Collection) (id : List ℕ) → option_map see o ≡ find (is_called id) collections → is_some o ≡ is_made collections id
some_made see o collections id e = some_mapped see o ∙ (ap is_some e ∙ some_found (is_called id) collections)

pub made_is : {A : Type 0} (see : A → Collection) (o : Option A) (made : Bool) (id named : List ℕ) (collections replayed : List Collection) → made ≡ is_some o → option_map see o ≡ find (is_called id) collections → id ≡ named → collections ≡ replayed
    → made ≡ is_made replayed named
made_is see o made id named collections replayed m e n c = m ∙ (some_made see o collections id e ∙ (ap (is_made collections) n ∙ ap (λ l. is_made l named) c))

-- ---- the faults that show by what is there and by what stands in the load

abbrev is_plain : LoadFault → Bool
is_plain NoCollection = true
is_plain CollectionExists = true
is_plain (ItemExists id) = true
is_plain (NoItem id) = true
is_plain (DuplicateInLoad id) = true
is_plain fault = false

abbrev ArePlain : Option LoadFault → Type 0
ArePlain found = IfSome found (λ fault. is_plain fault ≡ true)

plain_either : (a b : Option LoadFault) → ArePlain a → ArePlain b → ArePlain (or_else a b)
plain_either None b p q = q
plain_either (Some fault) b p q = p

plain_unless : (test : Bool) (fault : LoadFault) → is_plain fault ≡ true → ArePlain (unless test fault)
plain_unless true fault e = tt
plain_unless false fault e = e

plain_map : {A : Type 0} (f : A → LoadFault) (o : Option A) → ((x : A) → is_plain (f x) ≡ true) → ArePlain (option_map f o)
plain_map f None e = tt
plain_map f (Some x) e = e x

plain_exists : (test : Bool) → ArePlain (cond test (Some CollectionExists) None)
plain_exists true = refl
plain_exists false = tt

plain_missing : (content : Content) (collection id : List ℕ) → ArePlain (no_such_item content collection id)
plain_missing content collection id = plain_either (unless (is_made content.collections collection) NoCollection) _ (plain_unless (is_made content.collections collection) NoCollection refl) (plain_unless (has_item content.items collection id) (NoItem id) refl)

all_plain : (content : Content) (load : Load) → ArePlain (plain_fault content load)
all_plain content (AddCollection id cut tree) = plain_exists (is_made content.collections id)
all_plain content (DropCollection id) = plain_unless (is_made content.collections id) NoCollection refl
all_plain content (Insert collection new) =
    plain_either (unless (is_made content.collections collection) NoCollection) _ (plain_unless (is_made content.collections collection) NoCollection refl)
    (plain_either (an_item_exists content.items collection (map arc_value new)) (an_id_is_twice (map arc_value new)) (plain_map (λ item. ItemExists item.id) (first_there content.items collection (map arc_value new)) (λ item. refl)) (plain_map DuplicateInLoad (first_twice [] (ids_of (map arc_value new))) (λ id. refl)))
all_plain content (Upsert collection new) =
    plain_either (unless (is_made content.collections collection) NoCollection) _ (plain_unless (is_made content.collections collection) NoCollection refl) (plain_map DuplicateInLoad (first_twice [] (ids_of (map arc_value new))) (λ id. refl))
all_plain content (Replace collection item) = plain_missing content collection (arc_value item).id
all_plain content (Patch collection id patch) = plain_missing content collection id
all_plain content (Delete collection id) = plain_missing content collection id

not_plain : {R : Type 0} (content : Content) (load : Load) (fault : LoadFault) → plain_fault content load ≡ Some fault → is_plain fault ≡ false → R
not_plain content load fault e f = let p : is_plain fault ≡ true = subst ArePlain e (all_plain content load) in never (is_plain fault) p f

pub told_refused : (past : List Change) (load : Load) (fault : LoadFault) → IsTold (plain_fault (replay past) load) fault → IsRefused past load fault
told_refused past load NoCollection is = is
told_refused past load CollectionExists is = is
told_refused past load (ItemExists id) is = is
told_refused past load (NoItem id) is = is
told_refused past load (DuplicateInLoad id) is = is
told_refused past load (BadPatch fault) is = not_plain (replay past) load (BadPatch fault) is refl
told_refused past load (HistoryFull entries bytes) is = not_plain (replay past) load (HistoryFull entries bytes) is refl
told_refused past load (PartitionsFull count) is = not_plain (replay past) load (PartitionsFull count) is refl
told_refused past load (CollectionsFull count) is = not_plain (replay past) load (CollectionsFull count) is refl
told_refused past load OutOfMemory is = tt

-- ---- the fault of a patch

pub come_refused : (past : List Change) (load : Load) (fault : LoadFault) → plain_fault (replay past) load ≡ None → AnswersCome (replay past).items load (Err fault) → IsRefused past load fault
come_refused past load NoCollection none is = absurd is
come_refused past load CollectionExists none is = absurd is
come_refused past load (ItemExists id) none is = absurd is
come_refused past load (NoItem id) none is = absurd is
come_refused past load (DuplicateInLoad id) none is = absurd is
come_refused past load (BadPatch fault) none is = (none, is)
come_refused past load (HistoryFull entries bytes) none is = absurd is
come_refused past load (PartitionsFull count) none is = absurd is
come_refused past load (CollectionsFull count) none is = absurd is
come_refused past load OutOfMemory none is = tt

-- ---- the limits

pub full_refused : (past : List Change) (load : Load) (come : List Feature) (revision bytes : ℕ) (fault : LoadFault) → IsPast past → IsAllowed (replay past) (change_of load come) → revision ≡ length past + 1 → bytes ≡ told (bytes_with past load)
    → AnswersFull revision bytes (Err fault) → IsRefused past load fault
full_refused past load come revision bytes NoCollection p t r b is = absurd is
full_refused past load come revision bytes CollectionExists p t r b is = absurd is
full_refused past load come revision bytes (ItemExists id) p t r b is = absurd is
full_refused past load come revision bytes (NoItem id) p t r b is = absurd is
full_refused past load come revision bytes (DuplicateInLoad id) p t r b is = absurd is
full_refused past load come revision bytes (BadPatch fault) p t r b is = absurd is
full_refused past load come revision bytes (HistoryFull entries size) p t r b is = overfills past load come revision bytes entries size t (few_entries past p) r b is
full_refused past load come revision bytes (PartitionsFull count) p t r b is = absurd is
full_refused past load come revision bytes (CollectionsFull count) p t r b is = absurd is
full_refused past load come revision bytes OutOfMemory p t r b is = absurd is

-- the names of the parts after a load
names_of : (past : List Change) (change : Change) (old new : List Part) → IsPast past → IsAllowed (replay past) change → Stand past old → ArePublished past change old new → ArePartsOf (apply (replay past) change) (map (λ part. part.name) new)
names_of past change old new p t stand are = parts_after_load past change old new p t stand are

pub parts_refused : (past : List Change) (load : Load) (come : List Feature) (old new : List Part) (count : ℕ) (fault : LoadFault) → IsPast past → IsAllowed (replay past) (change_of load come) → HasRoom past load → Stand past old
    → ArePublished past (change_of load come) old new → count ≡ length new → AnswersParts count (Err fault) → IsRefused past load fault
parts_refused past load come old new count NoCollection p t r s are e is = absurd is
parts_refused past load come old new count CollectionExists p t r s are e is = absurd is
parts_refused past load come old new count (ItemExists id) p t r s are e is = absurd is
parts_refused past load come old new count (NoItem id) p t r s are e is = absurd is
parts_refused past load come old new count (DuplicateInLoad id) p t r s are e is = absurd is
parts_refused past load come old new count (BadPatch fault) p t r s are e is = absurd is
parts_refused past load come old new count (HistoryFull entries bytes) p t r s are e is = absurd is
parts_refused past load come old new count (PartitionsFull told_count) p t r s are e is =
    let names : length (map (λ (part : Part). part.name) new) ≡ length new = length-map new (λ (part : Part). part.name) in
    record {
      come = come;
      allowed = t;
      room = r;
      names = map (λ (part : Part). part.name) new;
      are_parts = names_of past (change_of load come) old new p t s are;
      full = subst (λ n. 65_536 < n) (e ∙ sym names) is.over;
      count_is = is.count_is ∙ (e ∙ sym names);
    }
parts_refused past load come old new count (CollectionsFull told_count) p t r s are e is = absurd is
parts_refused past load come old new count OutOfMemory p t r s are e is = absurd is

pub few_names : (past : List Change) (load : Load) (come : List Feature) (old new : List Part) (count : ℕ) → IsPast past → IsAllowed (replay past) (change_of load come) → Stand past old → ArePublished past (change_of load come) old new → count ≡ length new
    → count ≤ 65_536 → HasFewParts (apply (replay past) (change_of load come))
few_names past load come old new count p t s are e le = record {
  names = map (λ (part : Part). part.name) new;
  are_parts = names_of past (change_of load come) old new p t s are;
  few = subst (λ n. n ≤ 65_536) (e ∙ sym (length-map new (λ (part : Part). part.name))) le;
}

pub collections_refused : (past : List Change) (load : Load) (come : List Feature) (collections new : List Collection) (count : ℕ) (fault : LoadFault) → IsAllowed (replay past) (change_of load come) → HasRoom past load → HasFewParts (apply (replay past) (change_of load come))
    → collections ≡ (replay past).collections → new ≡ collections_after collections load → count ≡ length new → AnswersCollections count (Err fault) → IsRefused past load fault
collections_refused past load come collections new count NoCollection t r s c n e is = absurd is
collections_refused past load come collections new count CollectionExists t r s c n e is = absurd is
collections_refused past load come collections new count (ItemExists id) t r s c n e is = absurd is
collections_refused past load come collections new count (NoItem id) t r s c n e is = absurd is
collections_refused past load come collections new count (DuplicateInLoad id) t r s c n e is = absurd is
collections_refused past load come collections new count (BadPatch fault) t r s c n e is = absurd is
collections_refused past load come collections new count (HistoryFull entries bytes) t r s c n e is = absurd is
collections_refused past load come collections new count (PartitionsFull told_count) t r s c n e is = absurd is
collections_refused past load come collections new count (CollectionsFull told_count) t r s c n e is = record {
  come = come;
  allowed = t;
  room = r;
  parts = s;
  full = subst (λ n. 1_024 < n) (sym is.count_is) is.over;
  count_is = is.count_is ∙ (e ∙ ap length (n ∙ ap (λ l. collections_after l load) c));
}
collections_refused past load come collections new count OutOfMemory t r s c n e is = absurd is

pub few_made : (past : List Change) (load : Load) (come : List Feature) (collections new : List Collection) (count : ℕ) → collections ≡ (replay past).collections → new ≡ collections_after collections load → count ≡ length new → count ≤ 1_024
    → HasFewCollections (apply (replay past) (change_of load come))
few_made past load come collections new count c n e le = subst (λ k. k ≤ 1_024) (e ∙ ap length (n ∙ ap (λ l. collections_after l load) c)) le

-- ---- what a load puts is of its collection

pub come_own : (past : List Change) (load : Load) (come : List Feature) → IsAllowed (replay past) (change_of load come) → All (IsItemOf (collection_of load)) come
come_own past load come t =
    All-from_recursion (IsItemOf (collection_of load)) come (all_weaker (IsOwn (collection_of load)) (IsItemOf (collection_of load)) (λ item own. own.1) come (puts_own (replay past).items load come t.formed t.puts))

-- ---- the bytes

pub bytes_told : (past : List Change) (load : Load) (bytes size total : ℕ) → IsPast past → bytes ≡ sum_by (λ (c : Change). size_of c.load) past → size ≡ min (size_of load) (2 ^ 64 - 1) → total ≡ min (bytes + size) (2 ^ 64 - 1) → total ≡ told (bytes_with past load)
bytes_told past load bytes size total p b s t =
    let few : sum_by (λ (c : Change). size_of c.load) past ≤ 2 ^ 29 = few_bytes past p in
    bytes_more (sum_by (λ (c : Change). size_of c.load) past) (size_of load) total few (t ∙ ap (λ n. min (n + size) (2 ^ 64 - 1)) b ∙ ap (λ n. min (sum_by (λ (c : Change). size_of c.load) past + n) (2 ^ 64 - 1)) s)

-- ---- the conditions of the next steps

pub ready_at : (past : List Change) (revision bytes : ℕ) (collections : List Collection) (parts : List Part) (index : ItemIndex) (load : Load) (come : List Feature) → Reflects past revision bytes collections parts index → IsAllowed (replay past) (change_of load come)
    → IsReadyAt past revision collections parts index (change_of load come)
ready_at past revision bytes collections parts index load come r t = record { is = r.is; allowed = t; revision_is = r.revision_is; collections_are = r.collections_are; stand = r.stand; indexes = r.indexes }

pub cut_at : (past : List Change) (revision : ℕ) (collections : List Collection) (parts : List Part) (index : ItemIndex) (load : Load) (come : List Feature) (made : Collection) (cut : Cut) (id : List ℕ) → is_of_items load ≡ true
    → IsReadyAt past revision collections parts index (change_of load come) → Some made ≡ find (is_called id) collections → id ≡ collection_of load → cut ≡ made.cut → IsCutAt past revision cut parts index (change_of load come)
cut_at past revision collections parts index load come made cut id items r e n c = record {
  is = r.is;
  allowed = r.allowed;
  items = items;
  collection = made;
  there = ap (find (is_called (collection_of load))) (sym r.collections_are) ∙ (ap (λ i. find (is_called i) collections) (sym n) ∙ sym e);
  cut_is = sym c;
  revision_is = r.revision_is;
  stand = r.stand;
  indexes = r.indexes;
}

-- the collection of a load of items is there, since else the load is refused
made_either : (made : Bool) (other : Option LoadFault) → or_else (unless made NoCollection) other ≡ None → made ≡ true
made_either true other e = refl
made_either false other e = never true refl (ap is_some e)

made_of_items : (content : Content) (load : Load) → is_of_items load ≡ true → plain_fault content load ≡ None → is_made content.collections (collection_of load) ≡ true
made_of_items content (AddCollection id cut tree) items none = never false items refl
made_of_items content (DropCollection id) items none = never false items refl
made_of_items content (Insert collection new) items none = made_either (is_made content.collections collection) _ none
made_of_items content (Upsert collection new) items none = made_either (is_made content.collections collection) _ none
made_of_items content (Replace collection item) items none = made_either (is_made content.collections collection) _ none
made_of_items content (Patch collection id patch) items none = made_either (is_made content.collections collection) _ none
made_of_items content (Delete collection id) items none = made_either (is_made content.collections collection) _ none

pub collection_there : {R : Type 0} (past : List Change) (revision : ℕ) (collections : List Collection) (parts : List Part) (index : ItemIndex) (load : Load) (come : List Feature) (id : List ℕ) → is_of_items load ≡ true
    → IsReadyAt past revision collections parts index (change_of load come) → None ≡ find (is_called id) collections → id ≡ collection_of load → R
collection_there past revision collections parts index load come id items r none named =
    never (is_made (replay past).collections (collection_of load)) (made_of_items (replay past) load items r.allowed.no_fault)
    (sym (made_is (λ (c : Collection). c) None false id (collection_of load) collections (replay past).collections refl none named r.collections_are))

-- ---- loads of collections

pub add_after : (past : List Change) (revision : ℕ) (collections : List Collection) (parts : List Part) (index : ItemIndex) (load : Load) (come : List Feature) (id : List ℕ) (cut : Cut) (tree : Json) (after : PartsAfter) → load ≡ AddCollection id cut tree
    → IsReadyAt past revision collections parts index (change_of load come) → after.parts ≡ parts → after.touched.items ≡ [] → AreAfter past (change_of load come) parts after
add_after past revision collections parts index load come id cut tree after e at same none =
    subst (λ l. AreAfter past (change_of l come) parts after) (sym e) (go (subst (λ l. IsReadyAt past revision collections parts index (change_of l come)) e at))
  where
    go : IsReadyAt past revision collections parts index (change_of (AddCollection id cut tree) come) → AreAfter past (change_of (AddCollection id cut tree) come) parts after
    go a = record {
      parts_are = subst (ArePublished past (change_of (AddCollection id cut tree) come) parts) (sym same) (add_publishes past id cut tree come parts a.allowed.puts a.stand.rise);
      touched_are = none ∙ sym (add_names past id cut tree come after.parts a.allowed.puts);
    }

pub drop_after : (past : List Change) (revision : ℕ) (collections : List Collection) (parts : List Part) (index : ItemIndex) (load : Load) (come : List Feature) (id : List ℕ) (after : PartsAfter) → load ≡ DropCollection id
    → IsReadyAt past revision collections parts index (change_of load come) → AreWithout id parts after.parts → after.touched.items ≡ [] → AreAfter past (change_of load come) parts after
drop_after past revision collections parts index load come id after e at are none =
    subst (λ l. AreAfter past (change_of l come) parts after) (sym e) (go (subst (λ l. IsReadyAt past revision collections parts index (change_of l come)) e at))
  where
    go : IsReadyAt past revision collections parts index (change_of (DropCollection id) come) → AreAfter past (change_of (DropCollection id) come) parts after
    go a = record {
      parts_are = subst (λ l. ArePublished past (change_of (DropCollection id) l) parts after.parts) (sym a.allowed.puts) (drop_publishes past id parts after.parts a.stand are);
      touched_are = none ∙ sym (drop_names past id come parts after.parts a.allowed are);
    }
