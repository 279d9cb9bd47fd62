-- What every catalogue keeps, at its beginning and after a load.
use Rattle.std.proofs.Common.{◌≡◌, ◌+◌, suc, ℕ, List, [], ◌∷◌, ◌++◌, length, map, reverse, None, refl, sym, ap, ◌∙◌, subst, arith}
use Rattle.std.specs.List.{All, sum_by}
use Rattle.std.specs.Arc.{arc_value}
use Rattle.std.proofs.lemmas.List.{reverse-append}
use Rattle.std.proofs.lemmas.List.Elements.{All-from_recursion}
use Rattle.std.proofs.lemmas.List.Sums.{sum_by-cons}
use Rattle.sqlite_keyed.proofs.ListLemmas.{all_weaker}
use Rattle.sc_load.specs.declared.load.Load.{Load}
use Rattle.sc_load.specs.Load.{collection_of, size_of}
use Rattle.sc_index.specs.declared.index.ItemIndex.{ItemIndex}
use Rattle.sc_index.specs.Found.{Indexes, found}
use Rattle.sc_history.specs.Content.{Collection, item_in, nothing}
use Rattle.sc_history.specs.Changes.{Change, apply, collections_after}
use Rattle.sc_history.specs.History.{replay}
use Rattle.sc_history.specs.Taken.{Tells}
use Rattle.sc_history.specs.Part.{Part}
use Rattle.sc_history.specs.Touch.{AreTouched}
use Rattle.sc_history.proofs.Contents.{IsOwn, puts_own}
use Rattle.sc_history.proofs.Covering.{are_touched}
use Rattle.sc_history.proofs.Lawful.{stand_after}
use Rattle.sc_history.proofs.Moving.{bounds_move}
use Rattle.sc_history.proofs.Telling.{stand_nothing, told_next, told_nothing}
use Rattle.sc_catalog.specs.declared.entry.Entry.{Entry}
use Rattle.sc_catalog.specs.declared.entry.Published.{Published}
use Rattle.sc_catalog.specs.declared.next.Next.{Next}
use Rattle.sc_catalog.specs.Entries.{TellsOf, change_of, loads_of}
use Rattle.sc_catalog.specs.Holdings.{Holdings, IsPublished}
use Rattle.sc_catalog.specs.Kept.{IsKept, IsNext, Reflects}

nothing_replayed : replay [] ≡ nothing
unfolding replay
nothing_replayed = refl

replayed : (past : List Change) (change : Change) → replay (change ∷ past) ≡ apply (replay past) change
unfolding replay
replayed past change = refl

pub kept_nothing : (index : ItemIndex) → ((collection id : List ℕ) → found index collection id ≡ None) → IsKept [] 0 [] [] index
kept_nothing index none = record {
  past = [];
  told = told_nothing;
  reflects = record {
    is = tt;
    revision_is = refl;
    bytes_are = refl;
    collections_are = ap (λ c. c.collections) (sym nothing_replayed);
    stand = stand_nothing;
    indexes = record { each = λ collection id. none collection id ∙ ap (λ c. item_in c.items collection id) (sym nothing_replayed) };
  };
}

-- ---- after a load

pub loads_more : (entries : List Entry) (entry : Entry) → loads_of (entries ++ entry ∷ []) ≡ entry.load ∷ loads_of entries
loads_more entries entry = ap reverse (mapped entries) ∙ reverse-append (map (λ (e : Entry). e.load) entries) (entry.load ∷ [])
  where
    mapped : (l : List Entry) → map (λ (e : Entry). e.load) (l ++ entry ∷ []) ≡ map (λ (e : Entry). e.load) l ++ entry.load ∷ []
    mapped [] = refl
    mapped (x ∷ l) = ap (λ r. x.load ∷ r) (mapped l)

next_revision : (revision n : ℕ) → revision ≡ n + 1 → revision + 1 ≡ suc n + 1
next_revision revision n e = omega (arith, e)

size_more : (a b : ℕ) → a + b ≡ b + a
size_more a b = omega arith

pub reflects_next : (past : List Change) (load : Load) (revision bytes : ℕ) (collections : List Collection) (parts : List Part) (old new : ItemIndex) (next : Next) → Reflects past revision bytes collections parts old → IsNext past load collections parts next
    → Indexes (apply (replay past) (change_of load (map arc_value next.come.items))).items new → Reflects (change_of load (map arc_value next.come.items) ∷ past) (revision + 1) next.bytes next.collections next.parts new
reflects_next past load revision bytes collections parts old new next r n ix =
    let change = change_of load (map arc_value next.come.items) in
    record {
      is = (n.accepted, r.is);
      revision_is = next_revision revision (length past) r.revision_is;
      bytes_are = n.bytes_are ∙ (size_more (sum_by (λ (c : Change). size_of c.load) past) (size_of load) ∙ sym (sum_by-cons (λ (c : Change). size_of c.load) change past));
      collections_are = n.collections_are ∙ (ap (λ l. collections_after l load) r.collections_are ∙ ap (λ c. c.collections) (sym (replayed past change)));
      stand = stand_after past change parts next.parts r.is n.accepted.allowed r.stand n.parts_are;
      indexes = subst (λ c. Indexes c.items new) (sym (replayed past change)) ix;
    }

length_more : (entries : List Entry) (entry : Entry) → length (entries ++ entry ∷ []) ≡ length entries + 1
length_more [] entry = refl
length_more (x ∷ entries) entry = let e = length_more entries entry in omega (arith, e)

pub kept_next : (entries : List Entry) (by : ℕ) (load : Load) (bytes : ℕ) (collections : List Collection) (parts : List Part) (old new : ItemIndex) (next : Next) (kept : IsKept entries bytes collections parts old) → IsNext kept.past load collections parts next
    → Indexes (apply (replay kept.past) (change_of load (map arc_value next.come.items))).items new → IsKept (entries ++ record { by = by; load = load } ∷ []) next.bytes next.collections next.parts new
kept_next entries by load bytes collections parts old new next kept n ix =
    let entry : Entry = record { by = by; load = load } in
    record {
      past = change_of load (map arc_value next.come.items) ∷ kept.past;
      told = subst (λ l. Tells l (change_of load (map arc_value next.come.items) ∷ kept.past)) (sym (loads_more entries entry)) (told_next (loads_of entries) kept.past (change_of load (map arc_value next.come.items)) kept.told n.accepted);
      reflects = subst (λ k. Reflects (change_of load (map arc_value next.come.items) ∷ kept.past) (k + 1) next.bytes next.collections next.parts new) (sym (length_more entries entry))
          (reflects_next kept.past load (length entries + 1) bytes collections parts old new next kept.reflects n ix);
    }

pub published_is : (past : List Change) (by : ℕ) (load : Load) (old : Holdings) (revision bytes : ℕ) (index : ItemIndex) (next : Next) (published : Published) → TellsOf old.entries past → Reflects past revision bytes old.collections old.parts index → IsNext past load old.collections old.parts next → published.revision ≡ length old.entries + 1 → published.touched ≡ next.touched.items
    → IsPublished by load old (record { entries = old.entries ++ record { by = by; load = load } ∷ []; collections = next.collections; parts = next.parts }) published
published_is past by load old revision bytes index next published told reflects n r t = record {
  takes = record { past = past; told = told; come = map arc_value next.come.items; accepted = n.accepted };
  entries_are = refl;
  collections_are = n.collections_are;
  parts_are = n.parts_are;
  bounds_are = λ name. bounds_move past (change_of load (map arc_value next.come.items)) old.parts next.parts name reflects.is n.accepted.allowed reflects.stand n.parts_are;
  revision_is = r ∙ sym (length_more old.entries (record { by = by; load = load }));
  touched_are = subst (AreTouched past (change_of load (map arc_value next.come.items))) (sym (t ∙ n.touched_are)) (are_touched past (change_of load (map arc_value next.come.items)) old.parts next.parts reflects.is n.accepted.allowed reflects.stand n.parts_are);
}

-- the items that come are of the load's collection
pub next_own : (past : List Change) (load : Load) (collections : List Collection) (parts : List Part) (next : Next) → IsNext past load collections parts next → All (λ item. item.collection ≡ collection_of load) (map arc_value next.come.items)
next_own past load collections parts next n =
    All-from_recursion (λ item. item.collection ≡ collection_of load) _ (all_weaker (IsOwn (collection_of load)) (λ item. item.collection ≡ collection_of load) (λ item own. own.0) (map arc_value next.come.items)
    (puts_own (replay past).items load (map arc_value next.come.items) n.accepted.allowed.formed n.accepted.allowed.puts))
