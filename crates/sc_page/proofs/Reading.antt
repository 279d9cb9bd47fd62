-- Items that are read as far as they may be among the first.
use Rattle.std.proofs.Common.{◌≡◌, ◌<◌, ℕ, suc, zero, true, false, List, [], ◌∷◌, ◌++◌, take, drop, length, get_or, filter, reverse, append_assoc, append-nil, refl, sym, ap, ◌∙◌, subst, arith, IsPermutation}
use Rattle.std.specs.Arc.{arc_value}
use Rattle.std.specs.declared.alloc.Global.{Global}
use Rattle.std.specs.declared.sync.Arc.{Arc}
use Rattle.std.specs.List.{AllByRecursion}
use Rattle.std.proofs.lemmas.List.{map-append, take-append-drop, length-map, get_or-map, get_or_append_left, length-append, reverse-append}
use Rattle.std.proofs.lemmas.List.Sorted.{IsPermutation-append_right, IsPermutation-reverse, IsPermutation-sym, IsPermutation-trans}
use Rattle.sqlite_keyed.proofs.ListLemmas.{all-append, IsPermutation-filter}
use Rattle.sc_item.specs.Feature.{Feature}
use Rattle.sc_item.specs.Names.{AreApart}
use Rattle.sc_expr.specs.Query.{Asked}
use Rattle.sc_page.specs.declared.first.FirstItems.{FirstItems}
use Rattle.sc_page.specs.ItemKey.{item_order}
use Rattle.sc_page.specs.Kept.{HasFound, IsSettled}
use Rattle.sc_page.specs.Leading.{AreLatestFirst, is_earliest_first, is_latest_first, last_of_full, may_stand, starts_after, starts_before}
use Rattle.sc_page.specs.Search.{is_asked, shared}
use Rattle.sc_page.proofs.Collected.{found_from_settled, found_late}
use Rattle.sc_page.proofs.Listing.{apart_permutation, filter_every}
use Rattle.sc_page.proofs.Shared.{apart_front}
use Rattle.sc_page.proofs.Starting.{front_too_late, rest_too_early}

-- items none of which may be among the first
pub found_all_late : (asked : Asked) (f : FirstItems) (before rest : List Feature) → HasFound asked f before → AllByRecursion (λ y. may_stand (item_order asked.sort) (last_of_full f.most (shared f.first.items)) y ≡ false) rest
    → HasFound asked f (before ++ rest)
found_all_late asked f before [] h late = subst (HasFound asked f) (sym (append-nil before)) h
found_all_late asked f before (x ∷ rest) h late =
    subst (HasFound asked f) (append_assoc before (x ∷ []) rest) (found_all_late asked f (before ++ x ∷ []) rest (found_late asked before x f h late.0) late.1)

-- items that are read as far as one that starts too early
pub read_far : (asked : Asked) (f : FirstItems) (before : List Feature) (items : List (Arc Feature Global)) (i : ℕ) (a : Arc Feature Global) → AreLatestFirst (shared items) → i < length items → a ≡ get_or items i a
    → is_latest_first asked.sort ≡ true → starts_before (last_of_full f.most (shared f.first.items)) (arc_value a) ≡ true → HasFound asked f (before ++ shared (take i items)) → HasFound asked f (before ++ shared items)
read_far asked f before items i a latest lt here sort early h =
    let n = length-map items arc_value in
    let at : arc_value a ≡ get_or (shared items) i (arc_value a) = ap arc_value here ∙ sym (get_or-map arc_value items i a (arc_value a) lt) in
    let late = rest_too_early asked.sort (last_of_full f.most (shared f.first.items)) (shared items) i (arc_value a) latest (omega (arith, n, lt)) at sort early in
    let parts : (before ++ take i (shared items)) ++ drop i (shared items) ≡ before ++ shared items = append_assoc before (take i (shared items)) (drop i (shared items)) ∙ ap (λ l. before ++ l) (take-append-drop i (shared items)) in
    subst (HasFound asked f) parts
    (found_all_late asked f (before ++ take i (shared items)) (drop i (shared items)) (subst (λ l. HasFound asked f (before ++ l)) (take_shared items i) h) late)
  where
    take_shared : (xs : List (Arc Feature Global)) (k : ℕ) → shared (take k xs) ≡ take k (shared xs)
    take_shared xs zero = refl
    take_shared [] (suc k) = refl
    take_shared (x ∷ xs) (suc k) = ap (λ l. arc_value x ∷ l) (take_shared xs k)

-- what is settled stays so with the same items in another order
pub settled_same : (asked : Asked) (f : FirstItems) (items other : List Feature) → IsPermutation (filter (is_asked asked) items) (filter (is_asked asked) other) → IsSettled asked f items → IsSettled asked f other
settled_same asked f items other same s = record {
  most = s.most;
  first = record {
    listed = s.first.listed;
    is_listing = record {
      same = subst (λ l. IsPermutation l s.first.listed) (sym (filter_every (filter (is_asked asked) other)))
          (IsPermutation-trans _ _ _ (IsPermutation-sym _ _ same) (subst (λ l. IsPermutation l s.first.listed) (filter_every (filter (is_asked asked) items)) s.first.is_listing.same));
      ordered = s.first.is_listing.ordered;
    };
    cut = s.first.cut;
  };
  none = s.none;
}

-- ---- from the end on

-- the items behind these are read
pub record ReadBack (asked : Asked) (items rest : List (Arc Feature Global)) (old new : FirstItems) : Type 0 where
  pub read : List (Arc Feature Global)
  pub split : items ≡ rest ++ read
  pub found : (before : List Feature) → AreApart (before ++ reverse (shared items)) → HasFound asked old before → HasFound asked new (before ++ reverse (shared read))

module _ (asked : Asked) (items : List (Arc Feature Global)) (old : FirstItems) where
  pub read_none : ReadBack asked items items old old
  read_none = record {
    read = [];
    split = sym (append-nil items);
    found = λ before apart h. subst (HasFound asked old) (sym (append-nil before)) h;
  }

  module _ (rest others : List (Arc Feature Global)) (a : Arc Feature Global) (is : rest ≡ others ++ a ∷ []) (f : FirstItems) (r : ReadBack asked items rest old f) where
    split_there : items ≡ others ++ a ∷ r.read
    split_there = r.split ∙ ap (λ l. l ++ r.read) is ∙ append_assoc others (a ∷ []) r.read

    turned : reverse (shared items) ≡ (reverse (shared r.read) ++ arc_value a ∷ []) ++ reverse (shared others)
    turned =
        ap (λ l. reverse (shared l)) split_there ∙ ap reverse (map-append arc_value others (a ∷ r.read)) ∙ reverse-append (shared others) (arc_value a ∷ shared r.read)
        ∙ ap (λ l. l ++ reverse (shared others)) (reverse-append (arc_value a ∷ []) (shared r.read))

    apart_there : (before : List Feature) → AreApart (before ++ reverse (shared items)) → AreApart ((before ++ reverse (shared r.read)) ++ arc_value a ∷ [])
    apart_there before apart =
        let e : before ++ reverse (shared items) ≡ ((before ++ reverse (shared r.read)) ++ arc_value a ∷ []) ++ reverse (shared others) =
        ap (λ l. before ++ l) turned ∙ sym (append_assoc before (reverse (shared r.read) ++ arc_value a ∷ []) (reverse (shared others)))
        ∙ ap (λ l. l ++ reverse (shared others)) (sym (append_assoc before (reverse (shared r.read)) (arc_value a ∷ []))) in
        apart_front _ (reverse (shared others)) (subst AreApart e apart)

    pub read_one : (new : FirstItems) → ((seen : List Feature) → AreApart (seen ++ arc_value a ∷ []) → HasFound asked f seen → HasFound asked new (seen ++ arc_value a ∷ [])) → ReadBack asked items others old new
    read_one new add = record {
      read = a ∷ r.read;
      split = split_there;
      found = λ before apart h.
          subst (HasFound asked new) (append_assoc before (reverse (shared r.read)) (arc_value a ∷ []) ∙ ap (λ l. before ++ l) (sym (reverse-append (arc_value a ∷ []) (shared r.read))))
          (add (before ++ reverse (shared r.read)) (apart_there before apart) (r.found before apart h));
    }

    -- the rest isn't among the first
    pub read_back : AreLatestFirst (shared items) → is_earliest_first asked.sort ≡ true → starts_after (last_of_full f.most (shared f.first.items)) (arc_value a) ≡ true
        → (before : List Feature) → AreApart (before ++ reverse (shared items)) → HasFound asked old before → HasFound asked f (before ++ reverse (shared items))
    read_back latest sort late before apart h =
        let whole : shared items ≡ (shared others ++ arc_value a ∷ []) ++ shared r.read =
        ap shared r.split ∙ map-append arc_value rest r.read ∙ ap (λ l. l ++ shared r.read) (ap shared is ∙ map-append arc_value others (a ∷ [])) in
        let all = front_too_late asked.sort (last_of_full f.most (shared f.first.items)) (shared others) (arc_value a) (latest_front (shared others ++ arc_value a ∷ []) (shared r.read) (subst AreLatestFirst whole latest)) sort late in
        let back : AllByRecursion (λ y. may_stand (item_order asked.sort) (last_of_full f.most (shared f.first.items)) y ≡ false) (reverse (shared others ++ arc_value a ∷ [])) =
        all_reversed (λ y. may_stand (item_order asked.sort) (last_of_full f.most (shared f.first.items)) y ≡ false) (shared others ++ arc_value a ∷ []) all in
        subst (HasFound asked f) (append_assoc before (reverse (shared r.read)) (reverse (shared others ++ arc_value a ∷ [])) ∙ ap (λ l. before ++ l) (sym (ap reverse whole ∙ reverse-append (shared others ++ arc_value a ∷ []) (shared r.read))))
        (found_all_late asked f (before ++ reverse (shared r.read)) (reverse (shared others ++ arc_value a ∷ [])) (r.found before apart h) back)
      where
        latest_front : (xs ys : List Feature) → AreLatestFirst (xs ++ ys) → AreLatestFirst xs
        latest_front xs ys up i j d l m =
            let n = length-append xs ys in
            let p = get_or_append_left xs ys d i (omega arith) in
            let q = get_or_append_left xs ys d j m in
            rw (sym p, sym q) (up i j d l (omega (arith, n)))

        all_reversed : (P : Feature → Type 0) (xs : List Feature) → AllByRecursion P xs → AllByRecursion P (reverse xs)
        all_reversed P [] all = tt
        all_reversed P (x ∷ xs) all = subst (AllByRecursion P) (sym (reverse-append (x ∷ []) xs)) (all-append P (reverse xs) (x ∷ []) (all_reversed P xs all.1) (all.0, tt))

  -- all is read
  pub read_all : (f : FirstItems) → ReadBack asked items [] old f → (before : List Feature) → AreApart (before ++ reverse (shared items)) → HasFound asked old before → HasFound asked f (before ++ reverse (shared items))
  read_all f r before apart h = subst (λ l. HasFound asked f (before ++ reverse (shared l))) (sym r.split) (r.found before apart h)

-- read from the end on, and settled, they are found as they stand
pub found_turned : (asked : Asked) (old mid new : FirstItems) (items : List Feature) → ((before : List Feature) → AreApart (before ++ reverse items) → HasFound asked old before → HasFound asked mid (before ++ reverse items))
    → ((seen : List Feature) → AreApart seen → HasFound asked mid seen → IsSettled asked new seen) → (before : List Feature) → AreApart (before ++ items) → HasFound asked old before → HasFound asked new (before ++ items)
found_turned asked old mid new items read settle before apart h =
    let same : IsPermutation (before ++ items) (before ++ reverse items) = IsPermutation-append_right before items (reverse items) (IsPermutation-reverse items) in
    let turned : AreApart (before ++ reverse items) = apart_permutation (before ++ items) (before ++ reverse items) same apart in
    found_from_settled asked new (before ++ items)
    (settled_same asked new (before ++ reverse items) (before ++ items) (IsPermutation-filter (is_asked asked) _ _ (IsPermutation-sym _ _ same)) (settle (before ++ reverse items) turned (read before turned h)))
