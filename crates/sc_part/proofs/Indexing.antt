-- What is found in an index, and the entries of a version after a change.
use Rattle.std.proofs.Common.{◌≡◌, ◌≢◌, ℕ, zero, suc, ◌+◌, ◌<◌, ◌≤◌, Bool, true, false, cond, ◌||◌, List, [], ◌∷◌, ◌++◌, ◌⊎◌, ⊎_elim, inl, inr, length, get_or, set, take, map, replicate, Option, Some, None, refl, sym, ap, ◌∙◌, subst, arith, Less, Equal, Greater, IsPermutation}
use Rattle.std.specs.List.{All, AllPairs, AllWithin, Contains, HoldsAt, filter_map, list_any}
use Rattle.std.specs.List.Sorted.{IsPartitionPoint, IsNonDecreasingBy}
use Rattle.std.specs.Option.{MatchOption}
use Rattle.std.specs.Ordering.{nat_cmp, ordering_index, ordering_then}
use Rattle.std.specs.Str.{bytes_eq}
use Rattle.std.specs.Cmp.Lexicographic.{same_text, nat_list_eq_equiv}
use Rattle.std.proofs.lemmas.Cmp.{nat_cmp_total, nat_list_cmp_total, tied_itself}
use Rattle.std.proofs.lemmas.Bool.{cases_lt}
use Rattle.std.proofs.lemmas.List.{same_lists, length-map, length-set, get_or-set_same, get_or-set_other, get_or-map, take_more}
use Rattle.std.proofs.lemmas.List.Elements.{All-append, All-cons, All-contains, All-head, All-nil, All-tail, Contains-append_cases, Contains-append_left, Contains-append_right, filter_map-append}
use Rattle.std.proofs.lemmas.List.Folds.{list_any-append}
use Rattle.std.proofs.lemmas.List.Sorted.{All-permutation, Contains-permutation, searchable_from_sorted}
use Rattle.sc_base.specs.Text.{text_order}
use Rattle.sc_part.specs.declared.entry.Entry.{Entry}
use Rattle.sc_part.specs.Entry.{Key, digest, id_at, key_of, key_order}
use Rattle.sc_part.specs.Index.{AreDistinct, AreFor, IsIndex, IsRight, Knows}
use Rattle.sc_part.specs.Merged.{AreMoved, marked, moved_entry, staying}
use Rattle.sc_part.specs.Scan.{is_among}
use Rattle.sc_part.proofs.Scanning.{key_total, text_tie, then_equal}

-- a look-up
pub found : (ids : List (List ℕ)) (index : List Entry) (id : List ℕ) (at : ℕ) (e d : Entry) → IsIndex ids index → at < length index → e ≡ get_or index at d
    → HoldsAt (λ y. key_order (key_of ids y) (record { digest = digest id; id = id }) ≡ Equal) index at → (e.place < length ids) × (id_at ids e.place ≡ id)
found ids index id at e d is lt here ties =
    let tie = subst (λ t. key_order (key_of ids t) (record { digest = digest id; id = id }) ≡ Equal) (sym here) (ties d) in
    let right = subst (IsRight ids) (sym here) (is.entries.right at d lt) in
    (right.within, text_tie (id_at ids e.place) id (then_equal (nat_cmp e.digest (digest id)) (text_order (id_at ids e.place) id) tie).1)

pub nowhere : (ids : List (List ℕ)) (index : List Entry) (id : List ℕ) (at : ℕ) → IsIndex ids index
    → (IsNonDecreasingBy (λ y. ordering_index (key_order (key_of ids y) (record { digest = digest id; id = id }))) index
    → IsPartitionPoint (λ y. key_order (key_of ids y) (record { digest = digest id; id = id }) ≡ Less) (λ y. key_order (key_of ids y) (record { digest = digest id; id = id }) ≡ Greater) index at)
    → Contains ids id → ⊥
nowhere ids index id at is searched there = none (is.entries.whole id there) (searched (searchable_from_sorted key_total (key_of ids) index key is.ordered))
  where
    key : Key
    key = record { digest = digest id; id = id }

    tied : (e : Entry) → IsRight ids e → id_at ids e.place ≡ id → key_order (key_of ids e) key ≡ Equal
    tied e right same =
        let d : e.digest ≡ digest id = right.digest ∙ ap digest same in
        rw (d, same, tied_itself nat_cmp_total (digest id)) (tied_itself nat_list_cmp_total id)

    none : Knows ids index id → IsPartitionPoint (λ y. key_order (key_of ids y) key ≡ Less) (λ y. key_order (key_of ids y) key ≡ Greater) index at → ⊥
    none k (before, behind) = by k.there (⊎_elim (λ l. inl l) (λ l. inr (omega arith)) (cases_lt k.there.0 at))
      where
        tie : key_order (key_of ids k.entry) key ≡ Equal
        tie = tied k.entry (All-contains (IsRight ids) index k.entry is.entries.right k.there) k.is

        by : (c : Contains index k.entry) → (c.0 < at) ⊎ (at ≤ c.0) → ⊥
        by (n, lt, same) (inl l) = let h = subst (λ t. key_order (key_of ids t) key ≡ Less) same (before n k.entry (omega arith) l) in cc (h, tie)
        by (n, lt, same) (inr l) = let h = subst (λ t. key_order (key_of ids t) key ≡ Greater) same (behind n k.entry l lt) in cc (h, tie)

-- marks
is_among-push : (gone : List (List ℕ)) (id other : List ℕ) → is_among (gone ++ id ∷ []) other ≡ (is_among gone other || bytes_eq id other)
is_among-push gone id other = list_any-append (λ x. bytes_eq x other) gone (id ∷ []) ∙ ap (λ b. is_among gone other || b) (or_false (bytes_eq id other))
  where
    or_false : (b : Bool) → (b || false) ≡ b
    or_false true = refl
    or_false false = refl

or_true : (b : Bool) → (b || true) ≡ true
or_true true = refl
or_true false = refl

or_none : (b : Bool) → (b || false) ≡ b
or_none true = refl
or_none false = refl

pub marks_begin : (ids : List (List ℕ)) (n : ℕ) → n ≡ length ids → replicate n false ≡ map (is_among []) ids
marks_begin ids n e = subst (λ k. replicate k false ≡ map (is_among []) ids) (sym e) (go ids)
  where
    go : (xs : List (List ℕ)) → replicate (length xs) false ≡ map (is_among []) xs
    go [] = refl
    go (x ∷ xs) = ap (λ l. false ∷ l) (go xs)

is_not : (a b : List ℕ) → a ≢ b → bytes_eq a b ≡ false
is_not a b ne = go (bytes_eq a b) refl
  where
    go : (t : Bool) → bytes_eq a b ≡ t → bytes_eq a b ≡ false
    go true e = absurd (ne (same_text a b (sym e)))
    go false e = e

pub mark_one : (gone : List (List ℕ)) (ids : List (List ℕ)) (marks : List Bool) (id : List ℕ) (p : ℕ) → AreDistinct ids → p < length ids → id_at ids p ≡ id
    → marks ≡ map (is_among gone) ids → set marks p true ≡ map (is_among (gone ++ id ∷ [])) ids
mark_one gone ids marks id p distinct lt here is =
    let size : length marks ≡ length ids = ap length is ∙ length-map ids (is_among gone) in
    same_lists (set marks p true) (map (is_among (gone ++ id ∷ [])) ids) (length-set marks p true ∙ size ∙ sym (length-map ids (is_among (gone ++ id ∷ []))))
    (λ k d l. let low : k < length ids = omega (arith, size, l, length-set marks p true) in each k d low (by k))
  where
    by : (k : ℕ) → (k ≡ p) ⊎ (k ≢ p)
    by k = ⊎_elim (λ l. inr (λ e. absurd (omega arith))) (λ l. ⊎_elim (λ m. inr (λ e. absurd (omega arith))) (λ m. inl (omega arith)) (cases_lt p k)) (cases_lt k p)

    mark : (k : ℕ) (d : Bool) → k < length ids → get_or marks k d ≡ is_among gone (id_at ids k)
    mark k d l = ap (λ m. get_or m k d) is ∙ get_or-map (is_among gone) ids k [] d l

    right : (k : ℕ) (d : Bool) → k < length ids → get_or (map (is_among (gone ++ id ∷ [])) ids) k d ≡ (is_among gone (id_at ids k) || bytes_eq id (id_at ids k))
    right k d l = get_or-map (is_among (gone ++ id ∷ [])) ids k [] d l ∙ is_among-push gone id (id_at ids k)

    each : (k : ℕ) (d : Bool) → k < length ids → (k ≡ p) ⊎ (k ≢ p) → get_or (set marks p true) k d ≡ get_or (map (is_among (gone ++ id ∷ [])) ids) k d
    each k d l (inl e) =
        let same : id_at ids k ≡ id = ap (id_at ids) e ∙ here in
        let size : length marks ≡ length ids = ap length is ∙ length-map ids (is_among gone) in
        subst (λ t. get_or (set marks p true) t d ≡ true) (sym e) (get_or-set_same marks p true d (omega (arith, size, lt)))
        ∙ sym (right k d l ∙ ap (λ b. is_among gone (id_at ids k) || b) (rw same (nat_list_eq_equiv.refl id)) ∙ or_true (is_among gone (id_at ids k)))
    each k d l (inr ne) =
        let other : bytes_eq id (id_at ids k) ≡ false = is_not id (id_at ids k) (λ e. ne (distinct k p l lt (sym e ∙ sym here))) in
        get_or-set_other marks p k true d ne ∙ mark k d l ∙ sym (right k d l ∙ ap (λ b. is_among gone (id_at ids k) || b) other ∙ or_none (is_among gone (id_at ids k)))

pub mark_none : (gone : List (List ℕ)) (ids : List (List ℕ)) (id : List ℕ) → (Contains ids id → ⊥) → map (is_among gone) ids ≡ map (is_among (gone ++ id ∷ [])) ids
mark_none gone [] id none = refl
mark_none gone (x ∷ ids) id none =
    let first : bytes_eq id x ≡ false = is_not id x (λ e. none (0, omega arith, sym e)) in
    let head : is_among gone x ≡ is_among (gone ++ id ∷ []) x = sym (is_among-push gone id x ∙ ap (λ b. is_among gone x || b) first ∙ or_none (is_among gone x)) in
    let rest = mark_none gone ids id (λ c. none (later c)) in
    cc
  where
    later : Contains ids id → Contains (x ∷ ids) id
    later (k, lt, e) = (suc k, omega arith, e)

-- one id more
pub mark_step : (gone : List (List ℕ)) (i : ℕ) (id : List ℕ) (ids : List (List ℕ)) (marks : List Bool) (place : Option ℕ) → i < length gone → id ≡ get_or gone i id → AreDistinct ids
    → (n : ℕ) → length ids ≡ n → MatchOption place (Contains ids id → ⊥) (λ p. (p < n) × (id_at ids p ≡ id)) → marks ≡ map (is_among (take i gone)) ids → marked marks place ≡ map (is_among (take (i + 1) gone)) ids
mark_step gone i id ids marks None lt here distinct n size none is =
    is ∙ mark_none (take i gone) ids id none ∙ ap (λ l. map (is_among l) ids) (sym (take_more gone i id lt ∙ ap (λ t. take i gone ++ t ∷ []) (sym here)))
mark_step gone i id ids marks (Some p) lt here distinct n size (within, same) is =
    mark_one (take i gone) ids marks id p distinct (omega (arith, within, size)) same is ∙ ap (λ l. map (is_among l) ids) (sym (take_more gone i id lt ∙ ap (λ t. take i gone ++ t ∷ []) (sym here)))

-- one entry more
pub entry_step : (marks : List Bool) (places : List ℕ) (index : List Entry) (i : ℕ) (d : Entry) (done : List Entry) → i < length index → done ≡ filter_map (moved_entry marks places) (take i index)
    → done ++ cond (get_or marks (get_or index i d).place false) [] (record { digest = (get_or index i d).digest; place = get_or places (get_or index i d).place 0 } ∷ []) ≡ filter_map (moved_entry marks places) (take (i + 1) index)
entry_step marks places index i d done lt is =
    let h : Entry → Option Entry = moved_entry marks places in
    ap (λ l. l ++ cond (get_or marks (get_or index i d).place false) [] (record { digest = (get_or index i d).digest; place = get_or places (get_or index i d).place 0 } ∷ [])) is
    ∙ ap (λ l. filter_map h (take i index) ++ l) (last (get_or marks (get_or index i d).place false) refl)
    ∙ sym (ap (filter_map h) (take_more index i d lt) ∙ filter_map-append h (take i index) (get_or index i d ∷ []))
  where
    last : (b : Bool) → get_or marks (get_or index i d).place false ≡ b → cond b [] (record { digest = (get_or index i d).digest; place = get_or places (get_or index i d).place 0 } ∷ []) ≡ filter_map (moved_entry marks places) (get_or index i d ∷ [])
    last true e = rw e
    last false e = rw e

-- entries that are moved
all-filter_map : (P Q : Entry → Type 0) (h : Entry → Option Entry) → ((e f : Entry) → P e → h e ≡ Some f → Q f) → (es : List Entry) → All P es → All Q (filter_map h es)
all-filter_map P Q h step [] all = All-nil Q
all-filter_map P Q h step (e ∷ es) all = go (h e) refl (all-filter_map P Q h step es (All-tail P e es all))
  where
    go : (o : Option Entry) → h e ≡ o → All Q (filter_map h es) → All Q (Rattle.std.specs.List.cons_option o (filter_map h es))
    go None is rest = rest
    go (Some f) is rest = All-cons Q f (filter_map h es) (step e f (All-head P e es all) is) rest

contains-filter_map : (h : Entry → Option Entry) (e f : Entry) → h e ≡ Some f → (es : List Entry) → Contains es e → Contains (filter_map h es) f
contains-filter_map h e f is [] (k, lt, same) = absurd (omega (arith, lt))
contains-filter_map h e f is (x ∷ es) (zero, lt, same) = go (h x) (ap h same ∙ is)
  where
    go : (o : Option Entry) → o ≡ Some f → Contains (Rattle.std.specs.List.cons_option o (filter_map h es)) f
    go None e' = cc
    go (Some g) e' = let same' : g ≡ f = cc in (0, omega arith, same')
contains-filter_map h e f is (x ∷ es) (suc k, lt, same) = go (h x) (contains-filter_map h e f is es (k, omega arith, same))
  where
    go : (o : Option Entry) → Contains (filter_map h es) f → Contains (Rattle.std.specs.List.cons_option o (filter_map h es)) f
    go None there = there
    go (Some g) (n, l, s) = (suc n, omega arith, s)

-- what stays stood at a place whose mark isn't set
pub place_staying : (marks : List Bool) (ids : List (List ℕ)) (id : List ℕ) → Contains (staying marks ids) id → (p : ℕ) × (p < length ids) × (get_or marks p false ≡ false) × (id_at ids p ≡ id)
place_staying [] ids id (k, lt, e) = absurd (omega (arith, lt))
place_staying (m ∷ marks) [] id (k, lt, e) = absurd (omega (arith, lt))
place_staying (true ∷ marks) (x ∷ ids) id there = let (p, lt, m, e) = place_staying marks ids id there in (suc p, omega arith, m, e)
place_staying (false ∷ marks) (x ∷ ids) id (zero, lt, e) = (0, omega arith, refl, e)
place_staying (false ∷ marks) (x ∷ ids) id (suc k, lt, e) = let (p, l, m, s) = place_staying marks ids id (k, omega arith, e) in (suc p, omega arith, m, s)

-- the entries of what stays, with their new places, and those of what came
pub entries_after : (old new : List (List ℕ)) (index fresh : List Entry) (marks : List Bool) (places : List ℕ) (come : List (List ℕ)) (n : ℕ) → length old ≡ n → IsIndex old index → AreDistinct old → AreMoved old new marks places n → AreFor new fresh come
    → ((id : List ℕ) → Contains new id → Contains (come ++ staying marks old) id) → AreFor new (filter_map (moved_entry marks places) index ++ fresh) new
entries_after old new index fresh marks places come n size is distinct moved came parts = record {
  right = All-append (IsRight new) (filter_map (moved_entry marks places) index) fresh (all-filter_map (IsRight old) (IsRight new) (moved_entry marks places) right index is.entries.right) came.right;
  whole = λ id there. ⊎_elim (λ c. fresh_one id (came.whole id c)) (λ s. old_one id (place_staying marks old id s)) (Contains-append_cases come (staying marks old) id (parts id there));
}
  where
    at_place : (e f : Entry) (b : Bool) → get_or marks e.place false ≡ b → cond b None (Some (record { digest = e.digest; place = get_or places e.place 0 })) ≡ Some f → (b ≡ false) × (f ≡ record { digest = e.digest; place = get_or places e.place 0 })
    at_place e f true m h = cc
    at_place e f false m h = (refl, cc)

    right : (e f : Entry) → IsRight old e → moved_entry marks places e ≡ Some f → IsRight new f
    right e f r h =
        let (stays, is') = at_place e f (get_or marks e.place false) refl h in
        let low = r.within in
        let in' : e.place < n = omega (arith, low, size) in
        subst (IsRight new) (sym is') (record {
          within = moved.within e.place in' stays;
          digest = r.digest ∙ ap digest (sym (moved.same e.place in' stays));
        })

    fresh_one : (id : List ℕ) → Knows new fresh id → Knows new (filter_map (moved_entry marks places) index ++ fresh) id
    fresh_one id k = record { entry = k.entry; there = Contains-append_right (filter_map (moved_entry marks places) index) fresh k.entry k.there; is = k.is }

    old_one : (id : List ℕ) → (p : ℕ) × (p < length old) × (get_or marks p false ≡ false) × (id_at old p ≡ id) → Knows new (filter_map (moved_entry marks places) index ++ fresh) id
    old_one id (p, lt, stays, here) = known (is.entries.whole id (p, lt, inside old p lt here))
      where
        inside : (xs : List (List ℕ)) (k : ℕ) → k < length xs → get_or xs k [] ≡ id → get_or xs k id ≡ id
        inside [] k l e = absurd (omega arith)
        inside (y ∷ ys) zero l e = e
        inside (y ∷ ys) (suc k) l e = inside ys k (omega arith) e

        known : Knows old index id → Knows new (filter_map (moved_entry marks places) index ++ fresh) id
        known k =
            let r = All-contains (IsRight old) index k.entry is.entries.right k.there in
            let same : k.entry.place ≡ p = distinct k.entry.place p r.within lt (k.is ∙ sym here) in
            let mark : get_or marks k.entry.place false ≡ false = ap (λ t. get_or marks t false) same ∙ stays in
            record {
              entry = record { digest = k.entry.digest; place = get_or places k.entry.place 0 };
              there = Contains-append_left (filter_map (moved_entry marks places) index) fresh _ (contains-filter_map (moved_entry marks places) k.entry _ (rw mark refl) index k.there);
              is = moved.same k.entry.place (let low = r.within in omega (arith, low, size)) mark ∙ k.is;
            }

-- entries in another order
pub for_permutation : (ids : List (List ℕ)) (xs ys : List Entry) (known : List (List ℕ)) → IsPermutation xs ys → AreFor ids xs known → AreFor ids ys known
for_permutation ids xs ys known same f = record {
  right = All-permutation (IsRight ids) xs ys same f.right;
  whole = λ id there. let k = f.whole id there in record { entry = k.entry; there = Contains-permutation xs ys k.entry same k.there; is = k.is };
}
