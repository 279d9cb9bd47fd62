-- The changes that a load makes of parts, in the words of the parts that are kept.
use Rattle.std.proofs.Common.{◌≡◌, Bool, true, false, cond, List, [], ◌∷◌, map, filter, Option, Some, None, refl, sym, ◌∙◌, subst, arith, Less, Contains}
use Rattle.std.specs.Option.{is_some}
use Rattle.std.specs.Prelude.{IfSome}
use Rattle.std.specs.List.{AllByRecursion, All}
use Rattle.std.proofs.lemmas.List.Elements.{recursion_from_All, All-from_recursion, All-contains}
use Rattle.sqlite_trees.specs.Tree.{IsAscending}
use Rattle.sqlite_keyed.proofs.ListLemmas.{IsPermutation-same, ascending-filter, ascending-map}
use Rattle.sc_cut.specs.declared.name.PartName.{PartName}
use Rattle.sc_history.specs.Content.{Content}
use Rattle.sc_history.specs.Changes.{Change, is_among, takes}
use Rattle.sc_history.specs.Names.{is_name, name_order, part_of}
use Rattle.sc_history.specs.History.{replay, touches}
use Rattle.sc_history.specs.Part.{Part, lookup, AreInOrder}
use Rattle.sc_history.specs.Touch.{touched_names}
use Rattle.sc_history.specs.Sound.{Stand, Stands}
use Rattle.sc_history.proofs.Texts.{never}
use Rattle.sc_history.proofs.Scans.{all_scanned}
use Rattle.sc_history.proofs.Names.{name_self, same_name}
use Rattle.sc_history.proofs.Lists.{ascending_from_pairs}
use Rattle.sc_history.proofs.Counting.{Rises, contains_cases, contains_head, contains_tail, not_itself, one_list_of_names}
use Rattle.sc_shelf.specs.declared.change.PartChange.{PartChange}
use Rattle.sc_shelf.specs.Changed.{change_of}
use Rattle.sc_shelf.specs.Loads.{AreChangesBy, IsChangeBy}
use Rattle.sc_catalog.specs.Made.{AreMade, IsMadeOf, IsPartChange}
use Rattle.sc_catalog.proofs.Grouping.{contains_filtered, find_contained}

each_contained : {X : Type 0} (P : X → Type 0) (xs : List X) → ((x : X) → Contains xs x → P x) → AllByRecursion P xs
each_contained P [] f = tt
each_contained P (x ∷ xs) f = (f x (contains_head x xs), each_contained P xs (λ y there. f y (contains_tail x y xs there)))

-- of the items of a part that stands the change takes those that the load takes
taken_alike : (past : List Change) (change : Change) (name : PartName) (made : PartChange) (part : Part) → IsPartChange (replay past) change name made → Stands past name (Some part)
    → AllByRecursion (λ item. is_among made.gone item.id ≡ takes change.load item.id) part.items
taken_alike past change name made part is stands =
    subst (AllByRecursion (λ item. is_among made.gone item.id ≡ takes change.load item.id)) (sym stands.items_are)
    (recursion_from_All (λ item. is_among made.gone item.id ≡ takes change.load item.id) _ (all_scanned (λ item. is_among made.gone item.id ≡ takes change.load item.id) (part_of (replay past) name)
    (All-from_recursion (λ item. is_among made.gone item.id ≡ takes change.load item.id) _ (each_contained (λ item. is_among made.gone item.id ≡ takes change.load item.id) (part_of (replay past) name) is.gone_is))))

-- each change is the one of its name
own_change : (changes : List PartChange) → IsAscending (λ a b. name_order a.name b.name ≡ Less) changes → (made : PartChange) → Contains changes made → change_of made.name changes ≡ Some made
own_change [] up made (k, lt, is) = absurd (omega (arith, lt))
own_change (c ∷ changes) up made there = contains_cases c made changes there
    (λ same. subst (λ m. change_of m.name (c ∷ changes) ≡ Some m) same (rw (name_self c.name) refl))
    (λ later. rw (apart later) (own_change changes up.1 made later))
  where
    apart : Contains changes made → is_name c.name made.name ≡ false
    apart later = go (is_name c.name made.name) refl
      where
        go : (b : Bool) → is_name c.name made.name ≡ b → b ≡ false
        go false e = refl
        go true e =
            let less : name_order c.name made.name ≡ Less = All-contains (λ b. name_order c.name b.name ≡ Less) changes made (All-from_recursion (λ b. name_order c.name b.name ≡ Less) changes up.0) later in
            not_itself made.name (subst (λ n. name_order n made.name ≡ Less) (same_name c.name made.name e) less)

touch_made : (content : Content) (change : Change) (name : PartName) (o : Option PartChange) → IsMadeOf content change name o → is_some o ≡ touches content change name
touch_made content change name None is = sym is
touch_made content change name (Some made) is = sym is.touch

-- the changes that are made are those that the load makes of the parts
pub made_changes : (past : List Change) (change : Change) (changes : List PartChange) (old : List Part) → Stand past old → AreMade (replay past) change changes → AreChangesBy past change old changes
made_changes past change changes old stand made = record {
  rise = made.rise;
  touched = λ name. touch_made (replay past) change name (change_of name changes) (made.each name);
  each = All-from_recursion (IsChangeBy past change old) changes (each_contained (IsChangeBy past change old) changes one);
}
  where
    taken : (c : PartChange) (part : Option Part) → IsPartChange (replay past) change c.name c → Stands past c.name part → IfSome part (λ p. All (λ item. is_among c.gone item.id ≡ takes change.load item.id) p.items)
    taken c None is stands = tt
    taken c (Some p) is stands = All-from_recursion (λ item. is_among c.gone item.id ≡ takes change.load item.id) p.items (taken_alike past change c.name c p is stands)

    one : (c : PartChange) → Contains changes c → IsChangeBy past change old c
    one c there =
        let own : change_of c.name changes ≡ Some c = own_change changes (ascending_from_pairs (λ a b. name_order a.name b.name ≡ Less) changes made.rise) c there in
        let is : IsPartChange (replay past) change c.name c = subst (IsMadeOf (replay past) change c.name) own (made.each c.name) in
        record {
          come = IsPermutation-same _ _ (sym is.come_is);
          gone = taken c (lookup c.name old) is (stand.each c.name);
        }

-- ---- the names of the parts that are there after it

name_change : (changes : List PartChange) (name : PartName) → Contains (map (λ c. c.name) changes) name → is_some (change_of name changes) ≡ true
name_change [] name (k, lt, is) = absurd (omega (arith, lt))
name_change (c ∷ changes) name there = contains_cases c.name name (map (λ c. c.name) changes) there (λ same. rw (subst (λ n. is_name c.name n ≡ true) same (name_self c.name)) refl) (λ later. go (is_name c.name name) (name_change changes name later))
  where
    go : (b : Bool) → is_some (change_of name changes) ≡ true → is_some (cond b (Some c) (change_of name changes)) ≡ true
    go true e = refl
    go false e = e

change_name : (changes : List PartChange) (name : PartName) (made : PartChange) → change_of name changes ≡ Some made → made.name ≡ name → Contains (map (λ c. c.name) changes) name
change_name changes name made e same = subst (Contains (map (λ c. c.name) changes)) same (mapped changes made (find_contained (λ c. is_name c.name name) changes made e))
  where
    mapped : (cs : List PartChange) (m : PartChange) → Contains cs m → Contains (map (λ c. c.name) cs) m.name
    mapped [] m (k, lt, is) = absurd (omega (arith, lt))
    mapped (c ∷ cs) m there = contains_cases c m cs there (λ same. subst (λ x. Contains (map (λ c. c.name) (c ∷ cs)) x.name) same (contains_head c.name (map (λ c. c.name) cs))) (λ later. contains_tail c.name m.name (map (λ c. c.name) cs) (mapped cs m later))

pub part_name : (parts : List Part) (name : PartName) → Contains (map (λ p. p.name) parts) name → is_some (lookup name parts) ≡ true
part_name [] name (k, lt, is) = absurd (omega (arith, lt))
part_name (p ∷ parts) name there = contains_cases p.name name (map (λ p. p.name) parts) there (λ same. rw (subst (λ n. is_name p.name n ≡ true) same (name_self p.name)) refl) (λ later. go (is_name p.name name) (part_name parts name later))
  where
    go : (b : Bool) → is_some (lookup name parts) ≡ true → is_some (cond b (Some p) (lookup name parts)) ≡ true
    go true e = refl
    go false e = e

name_part : (parts : List Part) (name : PartName) → is_some (lookup name parts) ≡ true → Contains (map (λ p. p.name) parts) name
name_part [] name e = never false e refl
name_part (p ∷ parts) name e = go (is_name p.name name) refl (name_part parts name) e
  where
    go : (b : Bool) → is_name p.name name ≡ b → (is_some (lookup name parts) ≡ true → Contains (map (λ p. p.name) parts) name) → is_some (cond b (Some p) (lookup name parts)) ≡ true → Contains (p.name ∷ map (λ p. p.name) parts) name
    go true is more e = subst (Contains (p.name ∷ map (λ p. p.name) parts)) (same_name p.name name is) (contains_head p.name (map (λ p. p.name) parts))
    go false is more e = contains_tail p.name name (map (λ p. p.name) parts) (more e)

filtered_contained : {X : Type 0} (p : X → Bool) (xs : List X) (x : X) → Contains xs x → p x ≡ true → Contains (filter p xs) x
filtered_contained p [] x (k, lt, is) e = absurd (omega (arith, lt))
filtered_contained p (y ∷ xs) x there e = contains_cases y x xs there (λ same. rw (subst (λ z. p z ≡ true) (sym same) e) (subst (Contains (y ∷ filter p xs)) same (contains_head y (filter p xs)))) (λ later. go (p y) (filtered_contained p xs x later e))
  where
    go : (b : Bool) → Contains (filter p xs) x → Contains (cond b (y ∷ filter p xs) (filter p xs)) x
    go true there = contains_tail y x (filter p xs) there
    go false there = there

-- those of the changes that are there are the touched ones
pub touched_so_named : (past : List Change) (change : Change) (changes : List PartChange) (new : List Part) → AreInOrder new → AreMade (replay past) change changes
    → filter (λ name. is_some (lookup name new)) (map (λ c. c.name) changes) ≡ touched_names past change new
touched_so_named past change changes new order made =
    one_list_of_names _ _
    (ascending-filter Rises (λ name. is_some (lookup name new)) _ (ascending-map Rises (λ c. c.name) changes (ascending_from_pairs (λ a b. name_order a.name b.name ≡ Less) changes made.rise)))
    (ascending-filter Rises (touches (replay past) change) _ (ascending-map Rises (λ p. p.name) new (ascending_from_pairs (λ p q. name_order p.name q.name ≡ Less) new order)))
    (λ name. (to name, from name))
  where
    touch : (name : PartName) (o : Option PartChange) → IsMadeOf (replay past) change name o → touches (replay past) change name ≡ is_some o
    touch name None is = is
    touch name (Some made) is = is.touch

    to : (name : PartName) → Contains (filter (λ n. is_some (lookup n new)) (map (λ c. c.name) changes)) name → Contains (touched_names past change new) name
    to name there =
        let both = contains_filtered (λ n. is_some (lookup n new)) (map (λ c. c.name) changes) name there in
        filtered_contained (touches (replay past) change) (map (λ p. p.name) new) name (name_part new name both.1) (touch name (change_of name changes) (made.each name) ∙ name_change changes name both.0)

    changed_name : (name : PartName) (o : Option PartChange) → change_of name changes ≡ o → IsMadeOf (replay past) change name o → touches (replay past) change name ≡ true → Contains (map (λ c. c.name) changes) name
    changed_name name None e is t = never (touches (replay past) change name) t is
    changed_name name (Some m) e is t = change_name changes name m e is.name_is

    from : (name : PartName) → Contains (touched_names past change new) name → Contains (filter (λ n. is_some (lookup n new)) (map (λ c. c.name) changes)) name
    from name there =
        let both = contains_filtered (touches (replay past) change) (map (λ p. p.name) new) name there in
        filtered_contained (λ n. is_some (lookup n new)) (map (λ c. c.name) changes) name (changed_name name (change_of name changes) refl (made.each name) both.1) (part_name new name both.0)
