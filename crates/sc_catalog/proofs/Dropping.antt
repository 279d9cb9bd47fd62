-- The parts after a load that adds a collection, and after one that drops it.
use Rattle.std.proofs.Common.{◌≡◌, ℕ, Bool, true, false, cond, List, [], ◌∷◌, map, filter, None, refl, sym, ap, ◌∙◌, subst, bytes_eq, Contains}
use Rattle.std.specs.Option.{is_some}
use Rattle.sc_json.specs.declared.tree.Json.{Json}
use Rattle.sc_item.specs.Feature.{Feature}
use Rattle.sc_cut.specs.declared.cut.Cut.{Cut}
use Rattle.sc_cut.specs.declared.name.PartName.{PartName}
use Rattle.sc_load.specs.declared.load.Load.TheVariants.{AddCollection, DropCollection}
use Rattle.sc_history.specs.Content.{Content}
use Rattle.sc_history.specs.Changes.{Change}
use Rattle.sc_history.specs.History.{replay, touches}
use Rattle.sc_history.specs.Refusals.{IsAllowed}
use Rattle.sc_history.specs.Part.{Part, lookup, AreInOrder}
use Rattle.sc_history.specs.Touch.{ArePublished, touched_names}
use Rattle.sc_history.proofs.Texts.{never, text_test}
use Rattle.sc_history.proofs.Finding.{add_touches_none}
use Rattle.sc_history.proofs.Counting.{contains_head, contains_tail}
use Rattle.sc_history.proofs.Parts.{touched_collection}
use Rattle.sc_shelf.specs.Changed.{AreWithout}
use Rattle.sc_catalog.proofs.Publishing.{part_name}
use Rattle.std.specs.List.{AllByRecursion}

none_touched : (test : PartName → Bool) (names : List PartName) → AllByRecursion (λ name. test name ≡ false) names → filter test names ≡ []
none_touched test [] all = refl
none_touched test (n ∷ names) all = rw all.0 (none_touched test names all.1)

each_name : (P : PartName → Type 0) (names : List PartName) → ((name : PartName) → Contains names name → P name) → AllByRecursion P names
each_name P [] f = tt
each_name P (n ∷ names) f = (f n (contains_head n names), each_name P names (λ m there. f m (contains_tail n m names there)))

-- ---- a collection that is added

added : (content : Content) (id : List ℕ) (cut : Cut) (tree : Json) (come : List Feature) (name : PartName) → come ≡ [] → touches content (record { load = AddCollection id cut tree; come = come }) name ≡ false
added content id cut tree come name none = subst (λ l. touches content (record { load = AddCollection id cut tree; come = l }) name ≡ false) (sym none) (add_touches_none content id cut tree name)

pub add_publishes : (past : List Change) (id : List ℕ) (cut : Cut) (tree : Json) (come : List Feature) (old : List Part) → come ≡ [] → AreInOrder old → ArePublished past (record { load = AddCollection id cut tree; come = come }) old old
add_publishes past id cut tree come old none order = record { rise = order; each = λ name. rw (added (replay past) id cut tree come name none) refl }

pub add_names : (past : List Change) (id : List ℕ) (cut : Cut) (tree : Json) (come : List Feature) (new : List Part) → come ≡ [] → touched_names past (record { load = AddCollection id cut tree; come = come }) new ≡ []
add_names past id cut tree come new none = none_touched _ _ (each_name (λ name. touches (replay past) (record { load = AddCollection id cut tree; come = come }) name ≡ false) (map (λ p. p.name) new) (λ name there. added (replay past) id cut tree come name none))

-- ---- a collection that goes

other_untouched : (content : Content) (id : List ℕ) (come : List Feature) (name : PartName) → IsAllowed content (record { load = DropCollection id; come = come }) → bytes_eq name.collection id ≡ false
    → touches content (record { load = DropCollection id; come = come }) name ≡ false
other_untouched content id come name t apart = go (touches content (record { load = DropCollection id; come = come }) name) refl
  where
    go : (b : Bool) → touches content (record { load = DropCollection id; come = come }) name ≡ b → b ≡ false
    go false e = refl
    go true e = never (bytes_eq name.collection id) (text_test name.collection id (sym (touched_collection content (record { load = DropCollection id; come = come }) name t e))) apart

pub drop_names : (past : List Change) (id : List ℕ) (come : List Feature) (old new : List Part) → IsAllowed (replay past) (record { load = DropCollection id; come = come }) → AreWithout id old new
    → touched_names past (record { load = DropCollection id; come = come }) new ≡ []
drop_names past id come old new t are = none_touched _ _ (each_name (λ name. touches (replay past) (record { load = DropCollection id; come = come }) name ≡ false) (map (λ p. p.name) new) (λ name there. other_untouched (replay past) id come name t (other name there)))
  where
    other : (name : PartName) → Contains (map (λ p. p.name) new) name → bytes_eq name.collection id ≡ false
    other name there = go (bytes_eq name.collection id) refl
      where
        go : (b : Bool) → bytes_eq name.collection id ≡ b → b ≡ false
        go false e = refl
        go true e = never (is_some (lookup name new)) (part_name new name there) (ap is_some (are.each name) ∙ ap (λ b. is_some (cond b None (lookup name old))) e)
