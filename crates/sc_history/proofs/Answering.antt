-- A load whose items can be put is accepted or has a first fault.
use Rattle.std.proofs.Common.{◌≡◌, ℕ, ◌<◌, ◌^◌, ◌⊎◌, inl, inr, Bool, true, false, cond, nat_lt, List, [], length, map, Option, Some, None, option_map, refl, subst, ltb-false, ltb-true}
use Rattle.std.specs.Arc.{arc_value}
use Rattle.sc_item.specs.declared.fault.ItemFault.{ItemFault}
use Rattle.sc_item.specs.Feature.{Feature}
use Rattle.sc_cut.specs.declared.name.PartName.{PartName}
use Rattle.sc_load.specs.declared.load.Load.{Load}
use Rattle.sc_load.specs.declared.load.Load.TheVariants.{AddCollection, DropCollection, Insert, Upsert, Replace, Patch, Delete}
use Rattle.sc_load.specs.declared.fault.LoadFault.{LoadFault}
use Rattle.sc_load.specs.declared.fault.LoadFault.TheVariants.{NoCollection, CollectionExists, ItemExists, NoItem, DuplicateInLoad, BadPatch, HistoryFull, PartitionsFull, CollectionsFull, OutOfMemory}
use Rattle.sc_load.specs.Load.{IsWellFormed, items_of}
use Rattle.sc_history.specs.Content.{Content, has_item, is_made}
use Rattle.sc_history.specs.Changes.{Change, Puts, apply, ids_of}
use Rattle.sc_history.specs.Names.{ArePartsOf}
use Rattle.sc_history.specs.History.{replay}
use Rattle.sc_history.specs.Refusals.{HasBadPatch, HasFault, HasFewParts, HasRoom, IsAccepted, IsAllowed, IsRefused, bytes_with, entries_with, first_there, first_twice, is_patch, or_else, plain_fault, told, unless}
use Rattle.sc_history.specs.Taken.{IsPast}
use Rattle.sc_history.proofs.Texts.{never}
use Rattle.sc_history.proofs.Contents.{content_after}
use Rattle.sc_history.proofs.Existing.{parts_of}
use Rattle.sc_history.proofs.Pasts.{past_content}

-- ---- the faults that need no patched item

-- a fault by what is there, or by what stands in the load
abbrev IsPlain : LoadFault → Type 0
IsPlain NoCollection = Unit {0}
IsPlain CollectionExists = Unit {0}
IsPlain (ItemExists id) = Unit {0}
IsPlain (NoItem id) = Unit {0}
IsPlain (DuplicateInLoad id) = Unit {0}
IsPlain fault = ⊥

abbrev IsPlainIfAny : Option LoadFault → Type 0
IsPlainIfAny None = Unit {0}
IsPlainIfAny (Some fault) = IsPlain fault

or_plain : (one other : Option LoadFault) → IsPlainIfAny one → IsPlainIfAny other → IsPlainIfAny (or_else one other)
or_plain None other p q = q
or_plain (Some fault) other p q = p

unless_plain : (test : Bool) (fault : LoadFault) → IsPlain fault → IsPlainIfAny (unless test fault)
unless_plain true fault p = tt
unless_plain false fault p = p

exists_plain : (item : Option Feature) → IsPlainIfAny (option_map (λ i. ItemExists i.id) item)
exists_plain None = tt
exists_plain (Some item) = tt

twice_plain : (id : Option (List ℕ)) → IsPlainIfAny (option_map DuplicateInLoad id)
twice_plain None = tt
twice_plain (Some id) = tt

no_item_plain : (content : Content) (collection id : List ℕ) → IsPlainIfAny (or_else (unless (is_made content.collections collection) NoCollection) (unless (has_item content.items collection id) (NoItem id)))
no_item_plain content collection id =
    or_plain (unless (is_made content.collections collection) NoCollection) _ (unless_plain (is_made content.collections collection) NoCollection tt) (unless_plain (has_item content.items collection id) (NoItem id) tt)

plain : (content : Content) (load : Load) → IsPlainIfAny (plain_fault content load)
plain content (AddCollection id cut tree) = go (is_made content.collections id)
  where
    go : (b : Bool) → IsPlainIfAny (cond b (Some CollectionExists) None)
    go true = tt
    go false = tt
plain content (DropCollection id) = unless_plain (is_made content.collections id) NoCollection tt
plain content (Insert collection items) =
    or_plain (unless (is_made content.collections collection) NoCollection) _ (unless_plain (is_made content.collections collection) NoCollection tt)
    (or_plain (option_map (λ i. ItemExists i.id) (first_there content.items collection (map arc_value items))) _ (exists_plain (first_there content.items collection (map arc_value items))) (twice_plain (first_twice [] (ids_of (map arc_value items)))))
plain content (Upsert collection items) =
    or_plain (unless (is_made content.collections collection) NoCollection) _ (unless_plain (is_made content.collections collection) NoCollection tt) (twice_plain (first_twice [] (ids_of (map arc_value items))))
plain content (Replace collection item) = no_item_plain content collection (arc_value item).id
plain content (Patch collection id patch) = no_item_plain content collection id
plain content (Delete collection id) = no_item_plain content collection id

plain_refuses : (past : List Change) (load : Load) (fault : LoadFault) → IsPlain fault → plain_fault (replay past) load ≡ Some fault → IsRefused past load fault
plain_refuses past load NoCollection p e = e
plain_refuses past load CollectionExists p e = e
plain_refuses past load (ItemExists id) p e = e
plain_refuses past load (NoItem id) p e = e
plain_refuses past load (DuplicateInLoad id) p e = e
plain_refuses past load (BadPatch fault) p e = absurd p
plain_refuses past load (HistoryFull entries bytes) p e = absurd p
plain_refuses past load (PartitionsFull count) p e = absurd p
plain_refuses past load (CollectionsFull count) p e = absurd p
plain_refuses past load OutOfMemory p e = absurd p

-- each of them refuses the load
pub plain_answer : (past : List Change) (load : Load) (fault : LoadFault) → plain_fault (replay past) load ≡ Some fault → HasFault past load
plain_answer past load fault e =
    let p : IsPlain fault = subst IsPlainIfAny e (plain (replay past) load) in
    record { fault = fault; refused = plain_refuses past load fault p e; not_memory = λ same. subst IsPlain same p }

-- ---- the limits

module _ (past : List Change) (change : Change) (is : IsPast past) (allowed : IsAllowed (replay past) change) where
  abbrev after : Content
  after = apply (replay past) change

  overfull : (1_000_000 < entries_with past change.load) ⊎ (2 ^ 29 < bytes_with past change.load) → HasFault past change.load
  overfull full = record {
    fault = HistoryFull (told (entries_with past change.load)) (told (bytes_with past change.load));
    refused = record { come = change.come; allowed = allowed; full = full; entries_are = refl; bytes_are = refl };
    not_memory = λ same. cc same;
  }

  by_collections : HasRoom past change.load → HasFewParts after → (b : Bool) → nat_lt 1_024 (length after.collections) ≡ b → IsAccepted past change ⊎ HasFault past change.load
  by_collections room parts true e = inr (record {
    fault = CollectionsFull (length after.collections);
    refused = record { come = change.come; allowed = allowed; room = room; parts = parts; full = ltb-true 1_024 (length after.collections) e; count_is = refl };
    not_memory = λ same. cc same;
  })
  by_collections room parts false e = inl (record { allowed = allowed; room = room; parts = parts; collections = ltb-false 1_024 (length after.collections) e })

  by_parts : HasRoom past change.load → (names : List PartName) → ArePartsOf after names → (b : Bool) → nat_lt 65_536 (length names) ≡ b → IsAccepted past change ⊎ HasFault past change.load
  by_parts room names are true e = inr (record {
    fault = PartitionsFull (length names);
    refused = record { come = change.come; allowed = allowed; room = room; names = names; are_parts = are; full = ltb-true 65_536 (length names) e; count_is = refl };
    not_memory = λ same. cc same;
  })
  by_parts room names are false e = by_collections room (record { names = names; are_parts = are; few = ltb-false 65_536 (length names) e }) (nat_lt 1_024 (length after.collections)) refl

  with_room : HasRoom past change.load → IsAccepted past change ⊎ HasFault past change.load
  with_room room =
      let names = parts_of after (content_after (replay past) change allowed (past_content past is)) in
      by_parts room names.0 names.1 (nat_lt 65_536 (length names.0)) refl

  by_limits : (b c : Bool) → nat_lt 1_000_000 (entries_with past change.load) ≡ b → nat_lt (2 ^ 29) (bytes_with past change.load) ≡ c → IsAccepted past change ⊎ HasFault past change.load
  by_limits true c e f = inr (overfull (inl (ltb-true 1_000_000 (entries_with past change.load) e)))
  by_limits false true e f = inr (overfull (inr (ltb-true (2 ^ 29) (bytes_with past change.load) f)))
  by_limits false false e f = with_room (record { entries = ltb-false 1_000_000 (entries_with past change.load) e; bytes = ltb-false (2 ^ 29) (bytes_with past change.load) f })

-- ---- answers

pub made_answered : (past : List Change) (change : Change) → IsPast past → IsWellFormed change.load → Puts (replay past).items change.load change.come → IsAccepted past change ⊎ HasFault past change.load
made_answered past change is formed puts = go (plain_fault (replay past) change.load) refl
  where
    go : (o : Option LoadFault) → plain_fault (replay past) change.load ≡ o → IsAccepted past change ⊎ HasFault past change.load
    go (Some fault) e = inr (plain_answer past change.load fault e)
    go None e = by_limits past change is (record { formed = formed; no_fault = e; puts = puts }) (nat_lt 1_000_000 (entries_with past change.load)) (nat_lt (2 ^ 29) (bytes_with past change.load)) refl refl

puts_all : (items : List Feature) (load : Load) → is_patch load ≡ false → Puts items load (items_of load)
puts_all items (AddCollection id cut tree) e = refl
puts_all items (DropCollection id) e = refl
puts_all items (Insert collection more) e = refl
puts_all items (Upsert collection more) e = refl
puts_all items (Replace collection item) e = refl
puts_all items (Patch collection id patch) e = never true refl e
puts_all items (Delete collection id) e = refl

pub others_answered : (past : List Change) (load : Load) → IsPast past → IsWellFormed load → is_patch load ≡ false → IsAccepted past (record { load = load; come = items_of load }) ⊎ HasFault past load
others_answered past load is formed e = made_answered past (record { load = load; come = items_of load }) is formed (puts_all (replay past).items load e)

pub bad_answered : (past : List Change) (load : Load) (fault : ItemFault) → HasBadPatch (replay past).items load fault → HasFault past load
bad_answered past load fault bad = go (plain_fault (replay past) load) refl
  where
    go : (o : Option LoadFault) → plain_fault (replay past) load ≡ o → HasFault past load
    go (Some other) e = plain_answer past load other e
    go None e = record { fault = BadPatch fault; refused = (e, bad); not_memory = λ same. cc same }
