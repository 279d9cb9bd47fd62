-- Ids that stand a second time, found from the front of a list.
use Rattle.std.proofs.Common.{◌≡◌, ◌≤◌, ◌<◌, ◌+◌, ℕ, Bool, true, false, not, cond, ◌||◌, List, [], ◌∷◌, ◌++◌, length, map, take, drop, reverse, get_or, Option, Some, None, refl, sym, ap, ◌∙◌, bytes_eq}
use Rattle.std.specs.Arc.{arc_value}
use Rattle.std.specs.Ordering.{is_eq}
use Rattle.std.specs.Cmp.Lexicographic.{texts_ties}
use Rattle.std.specs.declared.alloc.Global.{Global}
use Rattle.std.specs.declared.sync.Arc.{Arc}
use Rattle.std.proofs.lemmas.List.{take_more, at_drop_more, drop_all, reverse-append}
use Rattle.sc_base.specs.Text.{text_order}
use Rattle.sc_item.specs.Feature.{Feature}
use Rattle.sc_history.specs.Changes.{ids_of, is_among}
use Rattle.sc_history.specs.Refusals.{first_twice}

-- the ids of shared items
abbrev pub own_ids : List (Arc Feature Global) → List (List ℕ)
own_ids items = ids_of (map arc_value items)

ids_pushed : (items : List (Arc Feature Global)) (item : Arc Feature Global) → own_ids (items ++ item ∷ []) ≡ own_ids items ++ (arc_value item).id ∷ []
ids_pushed [] item = refl
ids_pushed (x ∷ items) item = ap (λ ids. (arc_value x).id ∷ ids) (ids_pushed items item)

-- those before the next place, the nearest first
behind_more : (items : List (Arc Feature Global)) (at : ℕ) (item : Arc Feature Global) → at < length items → item ≡ get_or items at item
    → reverse (own_ids (take (at + 1) items)) ≡ (arc_value item).id ∷ reverse (own_ids (take at items))
behind_more items at item lt is =
    let more : take (at + 1) items ≡ take at items ++ item ∷ [] = take_more items at item lt ∙ ap (λ x. take at items ++ x ∷ []) (sym is) in
    ap (λ l. reverse (own_ids l)) more ∙ (ap reverse (ids_pushed (take at items) item) ∙ reverse-append (own_ids (take at items)) ((arc_value item).id ∷ []))

ahead : (items : List (Arc Feature Global)) (at : ℕ) (item : Arc Feature Global) → at < length items → item ≡ get_or items at item → own_ids (drop at items) ≡ (arc_value item).id ∷ own_ids (drop (at + 1) items)
ahead items at item lt is = at_drop_more own_ids items at item lt ∙ ap (λ (x : Arc Feature Global). (arc_value x).id ∷ own_ids (drop (at + 1) items)) (sym is)

either : (b c : Bool) → cond b true c ≡ (b || c)
either true c = refl
either false c = refl

-- one more is seen
pub seen_more : {K : Type 0} (now : K → List ℕ) (items : List (Arc Feature Global)) (at : ℕ) (item : Arc Feature Global) (old new : K → Bool) (key : List ℕ) → at < length items → item ≡ get_or items at item
    → key ≡ (arc_value item).id → ((q : K) → old q ≡ is_among (reverse (own_ids (take at items))) (now q)) → ((q : K) → new q ≡ cond (is_eq (text_order key (now q))) true (old q))
    → (q : K) → new q ≡ is_among (reverse (own_ids (take (at + 1) items))) (now q)
seen_more now items at item old new key lt is same was put q =
    put q ∙ (ap (λ b. cond b true (old q)) (sym (texts_ties key (now q))) ∙ (either (bytes_eq key (now q)) (old q) ∙ (ap (λ k. bytes_eq k (now q) || old q) same ∙ (ap (λ b. bytes_eq (arc_value item).id (now q) || b) (was q)
    ∙ ap (λ ids. is_among ids (now q)) (sym (behind_more items at item lt is))))))

one_twice : (before ids : List (List ℕ)) (id : List ℕ) → is_among before id ≡ true → first_twice before (id ∷ ids) ≡ Some id
unfolding first_twice
one_twice before ids id e = rw e refl

one_passed : (before ids : List (List ℕ)) (id : List ℕ) → is_among before id ≡ false → first_twice before (id ∷ ids) ≡ first_twice (id ∷ before) ids
unfolding first_twice
one_passed before ids id e = rw e refl

none_twice : (before : List (List ℕ)) → first_twice before [] ≡ None
unfolding first_twice
none_twice before = refl

-- the next one stands before too
pub twice_found : (items : List (Arc Feature Global)) (at : ℕ) (item : Arc Feature Global) (first : Option (List ℕ)) → at < length items → item ≡ get_or items at item
    → is_among (reverse (own_ids (take at items))) (arc_value item).id ≡ true → first ≡ first_twice (reverse (own_ids (take at items))) (own_ids (drop at items)) → Some (arc_value item).id ≡ first
twice_found items at item first lt is e f =
    sym (f ∙ (ap (first_twice (reverse (own_ids (take at items)))) (ahead items at item lt is) ∙ one_twice _ _ (arc_value item).id e))

-- it doesn't
pub twice_passed : (items : List (Arc Feature Global)) (at : ℕ) (item : Arc Feature Global) (first : Option (List ℕ)) → at < length items → item ≡ get_or items at item
    → is_among (reverse (own_ids (take at items))) (arc_value item).id ≡ false → first ≡ first_twice (reverse (own_ids (take at items))) (own_ids (drop at items))
    → first ≡ first_twice (reverse (own_ids (take (at + 1) items))) (own_ids (drop (at + 1) items))
twice_passed items at item first lt is e f =
    f ∙ (ap (first_twice (reverse (own_ids (take at items)))) (ahead items at item lt is) ∙ (one_passed _ _ (arc_value item).id e
    ∙ ap (λ before. first_twice before (own_ids (drop (at + 1) items))) (sym (behind_more items at item lt is))))

-- none is left
pub twice_nowhere : (items : List (Arc Feature Global)) (at : ℕ) (first : Option (List ℕ)) → length items ≤ at → first ≡ first_twice (reverse (own_ids (take at items))) (own_ids (drop at items)) → None ≡ first
twice_nowhere items at first le f = sym (f ∙ (ap (λ l. first_twice (reverse (own_ids (take at items))) (own_ids l)) (drop_all at items le) ∙ none_twice _))

pub not_true : (b : Bool) (a : Bool) → a ≡ not b → a ≡ true → b ≡ false
not_true true a e f = absurd cc
not_true false a e f = refl

pub not_false : (b : Bool) (a : Bool) → a ≡ not b → a ≡ false → b ≡ true
not_false true a e f = refl
not_false false a e f = absurd cc
