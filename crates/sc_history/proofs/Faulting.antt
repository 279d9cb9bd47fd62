-- The first fault excludes the others, and an accepted load has none.
use Rattle.std.proofs.Common.{◌≡◌, ℕ, ◌<◌, ◌≤◌, ◌^◌, ◌⊎◌, inl, inr, List, length, Option, Some, None, refl, sym, ap, ◌∙◌, subst, arith}
use Rattle.sc_json.specs.declared.tree.Json.{Json}
use Rattle.sc_item.specs.declared.fault.ItemFault.{ItemFault}
use Rattle.sc_item.specs.Feature.{Feature}
use Rattle.sc_item.specs.Reading.{IsItem}
use Rattle.sc_item.proofs.Lines.{one_reading}
use Rattle.sc_item.proofs.Excluding.{no_fault}
use Rattle.sc_load.specs.declared.load.Load.{Load}
use Rattle.sc_load.specs.declared.load.Load.TheVariants.{AddCollection, DropCollection, Insert, Upsert, Replace, Patch, Delete}
use Rattle.sc_load.specs.declared.fault.LoadFault.{LoadFault}
use Rattle.sc_load.specs.declared.fault.LoadFault.TheVariants.{NoCollection, CollectionExists, ItemExists, NoItem, DuplicateInLoad, BadPatch, HistoryFull, PartitionsFull, CollectionsFull, OutOfMemory}
use Rattle.sc_load.specs.Items.{CannotReplace, unread, renamed}
use Rattle.sc_load.specs.Patches.{IsPatched, IsBadPatch}
use Rattle.sc_history.specs.Changes.{Change, Puts, apply}
use Rattle.sc_history.specs.Names.{ArePartsOf}
use Rattle.sc_history.specs.History.{replay}
use Rattle.sc_history.specs.Refusals.{HasBadPatch, HasFewParts, HasRoom, IsAccepted, IsRefused, MakesTooManyCollections, MakesTooManyParts, OverfillsHistory, bytes_with, entries_with, plain_fault}
use Rattle.sc_history.proofs.ItemFaults.{one_patch_fault}
use Rattle.sc_history.proofs.Patching.{patched_once, puts_once}
use Rattle.sc_history.proofs.Counting.{one_list_of_parts}

-- ---- a patch that can't be made

one_found : (a b : Feature) → Some a ≡ Some b → a ≡ b
one_found a b e = cc

no_replacement : {R : Type 0} (collection id : List ℕ) (tree : Json) (fault : ItemFault) (new : Feature) → CannotReplace collection id tree fault → IsItem collection tree new → new.id ≡ id → R
no_replacement collection id tree _ new (unread fault bad) is same = absurd (no_fault collection tree fault bad.told bad.fault_is new is)
no_replacement collection id tree _ new (renamed item is' other) is same = absurd (other (ap (λ i. i.id) (one_reading collection tree item new is' is) ∙ same))

never_both : {R : Type 0} (old : Feature) (patch : Json) (new : Feature) (fault : ItemFault) → IsPatched old patch new → IsBadPatch old patch fault → R
never_both old patch new fault p b =
    let tree = patched_once old.tree patch p.merged b.merged p.merged_is b.merged_is in
    no_replacement old.collection old.id b.merged fault new b.cannot (subst (λ t. IsItem old.collection t new) tree p.item_is) p.id_is

pub bad_excludes : {R : Type 0} (items : List Feature) (load : Load) (fault : ItemFault) (come : List Feature) → HasBadPatch items load fault → Puts items load come → R
bad_excludes items (AddCollection id cut tree) fault come b p = absurd b
bad_excludes items (DropCollection id) fault come b p = absurd b
bad_excludes items (Insert collection more) fault come b p = absurd b
bad_excludes items (Upsert collection more) fault come b p = absurd b
bad_excludes items (Replace collection item) fault come b p = absurd b
bad_excludes items (Delete collection id) fault come b p = absurd b
bad_excludes items (Patch collection id patch) fault come b p =
    let old = one_found p.old b.old (sym p.there ∙ b.there) in
    never_both b.old patch p.new fault (subst (λ o. IsPatched o patch p.new) old p.patched) b.bad

-- ---- what a fault says

some_none : {R : Type 0} (o : Option LoadFault) (fault : LoadFault) → o ≡ Some fault → o ≡ None → R
some_none o fault e f = absurd cc

one_fault_of : (o : Option LoadFault) (a b : LoadFault) → o ≡ Some a → o ≡ Some b → a ≡ b
one_fault_of o a b e f = cc

-- a fault by the limits, or by a patch: the plain ones don't hold
abbrev IsLater : List Change → Load → LoadFault → Type 0
IsLater past load (BadPatch fault) = HasBadPatch (replay past).items load fault
IsLater past load (HistoryFull entries bytes) = OverfillsHistory past load entries bytes
IsLater past load (PartitionsFull count) = MakesTooManyParts past load count
IsLater past load (CollectionsFull count) = MakesTooManyCollections past load count
IsLater past load fault = ⊥

abbrev Splits : List Change → Load → LoadFault → Type 0
Splits past load fault = ((plain_fault (replay past) load ≡ Some fault) ⊎ ((plain_fault (replay past) load ≡ None) × IsLater past load fault)) ⊎ (fault ≡ OutOfMemory)

splits : (past : List Change) (load : Load) (fault : LoadFault) → IsRefused past load fault → Splits past load fault
splits past load NoCollection is = inl (inl is)
splits past load CollectionExists is = inl (inl is)
splits past load (ItemExists id) is = inl (inl is)
splits past load (NoItem id) is = inl (inl is)
splits past load (DuplicateInLoad id) is = inl (inl is)
splits past load (BadPatch fault) is = inl (inr is)
splits past load (HistoryFull entries bytes) is = inl (inr (is.allowed.no_fault, is))
splits past load (PartitionsFull count) is = inl (inr (is.allowed.no_fault, is))
splits past load (CollectionsFull count) is = inl (inr (is.allowed.no_fault, is))
splits past load OutOfMemory is = inr refl

-- ---- an accepted load

full_room : {R : Type 0} (past : List Change) (load : Load) → HasRoom past load → (1_000_000 < entries_with past load) ⊎ (2 ^ 29 < bytes_with past load) → R
full_room past load room (inl h) = let le = room.entries in absurd (omega (arith, h, le))
full_room past load room (inr h) = let le = room.bytes in absurd (omega (arith, h, le))

many_few : {R : Type 0} (past : List Change) (load : Load) (count : ℕ) (many : MakesTooManyParts past load count) (come : List Feature) → Puts (replay past).items load come → HasFewParts (apply (replay past) (record { load = load; come = come })) → R
many_few past load count many come puts few =
    let same : many.come ≡ come = puts_once (replay past).items load many.come come many.allowed.puts puts in
    let parts : ArePartsOf (apply (replay past) (record { load = load; come = come })) many.names = subst (λ c. ArePartsOf (apply (replay past) (record { load = load; come = c })) many.names) same many.are_parts in
    let names : many.names ≡ few.names = one_list_of_parts (apply (replay past) (record { load = load; come = come })) many.names few.names parts few.are_parts in
    let le : length few.names ≤ 65_536 = few.few in
    let lt : 65_536 < length few.names = subst (λ n. 65_536 < length n) names many.full in
    absurd (omega (arith, le, lt))

later_excluded : {R : Type 0} (past : List Change) (change : Change) (fault : LoadFault) → IsAccepted past change → IsLater past change.load fault → R
later_excluded past change (BadPatch fault) is l = bad_excludes (replay past).items change.load fault change.come l is.allowed.puts
later_excluded past change (HistoryFull entries bytes) is l = full_room past change.load is.room l.full
later_excluded past change (PartitionsFull count) is l = many_few past change.load count l change.come is.allowed.puts is.parts
later_excluded past change (CollectionsFull count) is l = let few = is.collections in let full = l.full in let count_is = l.count_is in absurd (omega (arith, few, full, count_is))
later_excluded past change NoCollection is l = absurd l
later_excluded past change CollectionExists is l = absurd l
later_excluded past change (ItemExists id) is l = absurd l
later_excluded past change (NoItem id) is l = absurd l
later_excluded past change (DuplicateInLoad id) is l = absurd l
later_excluded past change OutOfMemory is l = absurd l

-- it is refused for want of memory alone
pub accepted_excludes : (past : List Change) (change : Change) (fault : LoadFault) → IsAccepted past change → IsRefused past change.load fault → fault ≡ OutOfMemory
accepted_excludes past change fault is refused = go (splits past change.load fault refused)
  where
    go : Splits past change.load fault → fault ≡ OutOfMemory
    go (inl (inl e)) = some_none (plain_fault (replay past) change.load) fault e is.allowed.no_fault
    go (inl (inr l)) = later_excluded past change fault is l.1
    go (inr e) = e

-- ---- two faults

two_bad : (items : List Feature) (load : Load) (f g : ItemFault) → HasBadPatch items load f → HasBadPatch items load g → f ≡ g
two_bad items (AddCollection id cut tree) f g b c = absurd b
two_bad items (DropCollection id) f g b c = absurd b
two_bad items (Insert collection more) f g b c = absurd b
two_bad items (Upsert collection more) f g b c = absurd b
two_bad items (Replace collection item) f g b c = absurd b
two_bad items (Delete collection id) f g b c = absurd b
two_bad items (Patch collection id patch) f g b c =
    let old = one_found b.old c.old (sym b.there ∙ c.there) in
    one_patch_fault c.old patch f g (subst (λ o. IsBadPatch o patch f) old b.bad) c.bad

two_overfull : (past : List Change) (load : Load) (entries bytes entries' bytes' : ℕ) → OverfillsHistory past load entries bytes → OverfillsHistory past load entries' bytes' → HistoryFull entries bytes ≡ HistoryFull entries' bytes'
two_overfull past load entries bytes entries' bytes' l m =
    let e : entries ≡ entries' = l.entries_are ∙ sym m.entries_are in
    let b : bytes ≡ bytes' = l.bytes_are ∙ sym m.bytes_are in
    λ i. HistoryFull (e i) (b i)

two_many : (past : List Change) (load : Load) (count count' : ℕ) → MakesTooManyParts past load count → MakesTooManyParts past load count' → PartitionsFull count ≡ PartitionsFull count'
two_many past load count count' l m =
    let same : l.come ≡ m.come = puts_once (replay past).items load l.come m.come l.allowed.puts m.allowed.puts in
    let parts : ArePartsOf (apply (replay past) (record { load = load; come = m.come })) l.names = subst (λ c. ArePartsOf (apply (replay past) (record { load = load; come = c })) l.names) same l.are_parts in
    let names : l.names ≡ m.names = one_list_of_parts (apply (replay past) (record { load = load; come = m.come })) l.names m.names parts m.are_parts in
    let e : count ≡ count' = l.count_is ∙ ap length names ∙ sym m.count_is in
    λ i. PartitionsFull (e i)

both_later : (past : List Change) (load : Load) (a b : LoadFault) → IsLater past load a → IsLater past load b → a ≡ b
both_later past load (BadPatch f) (BadPatch g) l m = ap (λ x. BadPatch x) (two_bad (replay past).items load f g l m)
both_later past load (BadPatch f) (HistoryFull entries bytes) l m = bad_excludes (replay past).items load f m.come l m.allowed.puts
both_later past load (BadPatch f) (PartitionsFull count) l m = bad_excludes (replay past).items load f m.come l m.allowed.puts
both_later past load (BadPatch f) (CollectionsFull count) l m = bad_excludes (replay past).items load f m.come l m.allowed.puts
both_later past load (HistoryFull entries bytes) (BadPatch g) l m = bad_excludes (replay past).items load g l.come m l.allowed.puts
both_later past load (PartitionsFull count) (BadPatch g) l m = bad_excludes (replay past).items load g l.come m l.allowed.puts
both_later past load (CollectionsFull count) (BadPatch g) l m = bad_excludes (replay past).items load g l.come m l.allowed.puts
both_later past load (HistoryFull entries bytes) (HistoryFull entries' bytes') l m = two_overfull past load entries bytes entries' bytes' l m
both_later past load (HistoryFull entries bytes) (PartitionsFull count) l m = full_room past load m.room l.full
both_later past load (HistoryFull entries bytes) (CollectionsFull count) l m = full_room past load m.room l.full
both_later past load (PartitionsFull count) (HistoryFull entries bytes) l m = full_room past load l.room m.full
both_later past load (CollectionsFull count) (HistoryFull entries bytes) l m = full_room past load l.room m.full
both_later past load (PartitionsFull count) (PartitionsFull count') l m = two_many past load count count' l m
both_later past load (PartitionsFull count) (CollectionsFull count') l m = many_few past load count l m.come m.allowed.puts m.parts
both_later past load (CollectionsFull count) (PartitionsFull count') l m = many_few past load count' m l.come l.allowed.puts l.parts
both_later past load (CollectionsFull count) (CollectionsFull count') l m = let e : count ≡ count' = l.count_is ∙ sym m.count_is in λ i. CollectionsFull (e i)
both_later past load NoCollection b l m = absurd l
both_later past load CollectionExists b l m = absurd l
both_later past load (ItemExists id) b l m = absurd l
both_later past load (NoItem id) b l m = absurd l
both_later past load (DuplicateInLoad id) b l m = absurd l
both_later past load OutOfMemory b l m = absurd l
both_later past load (BadPatch f) NoCollection l m = absurd m
both_later past load (BadPatch f) CollectionExists l m = absurd m
both_later past load (BadPatch f) (ItemExists id) l m = absurd m
both_later past load (BadPatch f) (NoItem id) l m = absurd m
both_later past load (BadPatch f) (DuplicateInLoad id) l m = absurd m
both_later past load (BadPatch f) OutOfMemory l m = absurd m
both_later past load (HistoryFull entries bytes) NoCollection l m = absurd m
both_later past load (HistoryFull entries bytes) CollectionExists l m = absurd m
both_later past load (HistoryFull entries bytes) (ItemExists id) l m = absurd m
both_later past load (HistoryFull entries bytes) (NoItem id) l m = absurd m
both_later past load (HistoryFull entries bytes) (DuplicateInLoad id) l m = absurd m
both_later past load (HistoryFull entries bytes) OutOfMemory l m = absurd m
both_later past load (PartitionsFull count) NoCollection l m = absurd m
both_later past load (PartitionsFull count) CollectionExists l m = absurd m
both_later past load (PartitionsFull count) (ItemExists id) l m = absurd m
both_later past load (PartitionsFull count) (NoItem id) l m = absurd m
both_later past load (PartitionsFull count) (DuplicateInLoad id) l m = absurd m
both_later past load (PartitionsFull count) OutOfMemory l m = absurd m
both_later past load (CollectionsFull count) NoCollection l m = absurd m
both_later past load (CollectionsFull count) CollectionExists l m = absurd m
both_later past load (CollectionsFull count) (ItemExists id) l m = absurd m
both_later past load (CollectionsFull count) (NoItem id) l m = absurd m
both_later past load (CollectionsFull count) (DuplicateInLoad id) l m = absurd m
both_later past load (CollectionsFull count) OutOfMemory l m = absurd m

-- two faults that aren't want of memory are one
pub one_fault : (past : List Change) (load : Load) (a b : LoadFault) → IsRefused past load a → IsRefused past load b → (a ≡ OutOfMemory → ⊥) → (b ≡ OutOfMemory → ⊥) → a ≡ b
one_fault past load a b p q isnt isnt' = go (splits past load a p) (splits past load b q)
  where
    go : Splits past load a → Splits past load b → a ≡ b
    go (inr e) s = absurd (isnt e)
    go (inl x) (inr e) = absurd (isnt' e)
    go (inl (inl e)) (inl (inl f)) = one_fault_of (plain_fault (replay past) load) a b e f
    go (inl (inl e)) (inl (inr l)) = some_none (plain_fault (replay past) load) a e l.0
    go (inl (inr l)) (inl (inl f)) = some_none (plain_fault (replay past) load) b f l.0
    go (inl (inr l)) (inl (inr m)) = both_later past load a b l.1 m.1
