-- Revisions of a history: births, stamps and additions, of which the last 64 are kept.
use Rattle.std.proofs.Common.{◌≡◌, ℕ, zero, suc, ◌+◌, ◌-◌, ◌≤◌, Bool, true, false, not, cond, nat_lt, List, [], ◌∷◌, length, filter, take, drop, refl, sym, ap, ◌∙◌, arith, le-ltb, lt-ltb, ltb-false, ltb-true}
use Rattle.std.specs.List.{AllByRecursion}
use Rattle.sqlite_trees.specs.Tree.{IsAscending}
use Rattle.sqlite_keyed.proofs.ListLemmas.{all_weaker, filter_none, filter-filter, ascending-filter}
use Rattle.sc_cut.specs.declared.name.PartName.{PartName}
use Rattle.sc_history.specs.declared.addition.Addition.{Addition}
use Rattle.sc_history.specs.Changes.{Change}
use Rattle.sc_history.specs.Names.{hull_of, is_empty, part_of}
use Rattle.sc_history.specs.History.{replay, comes, touches, stamp, makes, birth, added, additions, first_revision, kept_from}
use Rattle.sc_history.specs.Installs.{later}
use Rattle.sc_history.proofs.Texts.{never}
use Rattle.sc_history.proofs.Lists.{all_passing}

-- ---- the definitions, case by case

pub stamp_touched : (past : List Change) (change : Change) (name : PartName) → touches (replay past) change name ≡ true → stamp (change ∷ past) name ≡ length past + 1
unfolding stamp
stamp_touched past change name e = rw e refl

pub stamp_untouched : (past : List Change) (change : Change) (name : PartName) → touches (replay past) change name ≡ false → stamp (change ∷ past) name ≡ stamp past name
unfolding stamp
stamp_untouched past change name e = rw e refl

pub birth_made : (past : List Change) (change : Change) (name : PartName) → is_empty (part_of (replay past) name) ≡ true → is_empty (part_of (replay (change ∷ past)) name) ≡ false → birth (change ∷ past) name ≡ length past + 1
unfolding birth replay
birth_made past change name e f = rw (e, f) refl

pub birth_stays : (past : List Change) (change : Change) (name : PartName) → is_empty (part_of (replay past) name) ≡ false → birth (change ∷ past) name ≡ birth past name
unfolding birth
birth_stays past change name e = rw e refl

pub added_more : (past : List Change) (change : Change) (name : PartName) → is_empty (comes (replay past) change name) ≡ false
    → added (change ∷ past) name ≡ record { revision = length past + 1; hull = hull_of (comes (replay past) change name) } ∷ added past name
unfolding added
added_more past change name e = rw e refl

pub added_nothing : (name : PartName) → added [] name ≡ []
unfolding added
added_nothing name = refl

pub added_same : (past : List Change) (change : Change) (name : PartName) → is_empty (comes (replay past) change name) ≡ true → added (change ∷ past) name ≡ added past name
unfolding added
added_same past change name e = rw e refl

-- ---- nothing is later than the history

pub birth_reached : (past : List Change) (name : PartName) → birth past name ≤ length past
unfolding birth
birth_reached [] name = omega arith
birth_reached (change ∷ past) name = go (makes (replay past) change name) (birth_reached past name)
  where
    go : (b : Bool) → birth past name ≤ length past → cond b (length past + 1) (birth past name) ≤ length (change ∷ past)
    go true le = omega arith
    go false le = omega (arith, le)

pub stamp_reached : (past : List Change) (name : PartName) → stamp past name ≤ length past
unfolding stamp
stamp_reached [] name = omega arith
stamp_reached (change ∷ past) name = go (touches (replay past) change name) (stamp_reached past name)
  where
    go : (b : Bool) → stamp past name ≤ length past → cond b (length past + 1) (stamp past name) ≤ length (change ∷ past)
    go true le = omega arith
    go false le = omega (arith, le)

pub added_reached : (past : List Change) (name : PartName) → AllByRecursion (λ a. a.revision ≤ length past) (added past name)
unfolding added
added_reached [] name = tt
added_reached (change ∷ past) name =
    go (is_empty (comes (replay past) change name)) (all_weaker (λ a. a.revision ≤ length past) (λ a. a.revision ≤ length (change ∷ past)) (λ a le. omega (arith, le)) (added past name) (added_reached past name))
  where
    go : (b : Bool) → AllByRecursion (λ a. a.revision ≤ length (change ∷ past)) (added past name)
        → AllByRecursion (λ a. a.revision ≤ length (change ∷ past)) (cond b (added past name) (record { revision = length past + 1; hull = hull_of (comes (replay past) change name) } ∷ added past name))
    go true all = all
    go false all = (omega arith, all)

-- ---- additions

-- none of the additions is as late as the next revision
none_since_next : (past : List Change) (name : PartName) → filter (λ a. not (nat_lt a.revision (length past + 1))) (added past name) ≡ []
none_since_next past name =
    filter_none _ (added past name) (all_weaker (λ a. a.revision ≤ length past) (λ a. not (nat_lt a.revision (length past + 1)) ≡ false) (λ a le. ap not (lt-ltb a.revision (length past + 1) (omega (arith, le)))) (added past name) (added_reached past name))

pub additions_made : (past : List Change) (change : Change) (name : PartName) → birth (change ∷ past) name ≡ length past + 1 → is_empty (comes (replay past) change name) ≡ false
    → additions (change ∷ past) name ≡ record { revision = length past + 1; hull = hull_of (comes (replay past) change name) } ∷ []
additions_made past change name b e =
    rw (b, added_more past change name e, le-ltb (length past + 1) (length past + 1) (omega arith)) (ap (λ l. record { revision = length past + 1; hull = hull_of (comes (replay past) change name) } ∷ l) (none_since_next past name))

pub additions_more : (past : List Change) (change : Change) (name : PartName) → birth (change ∷ past) name ≡ birth past name → is_empty (comes (replay past) change name) ≡ false
    → additions (change ∷ past) name ≡ record { revision = length past + 1; hull = hull_of (comes (replay past) change name) } ∷ additions past name
additions_more past change name b e = rw (b, added_more past change name e, le-ltb (length past + 1) (birth past name) (omega (arith, birth_reached past name))) refl

pub additions_same : (past : List Change) (change : Change) (name : PartName) → birth (change ∷ past) name ≡ birth past name → is_empty (comes (replay past) change name) ≡ true → additions (change ∷ past) name ≡ additions past name
additions_same past change name b e = rw (b, added_same past change name e) refl

-- ---- the last 64

take_take : {X : Type 0} (n : ℕ) (l : List X) → take n (take (suc n) l) ≡ take n l
take_take zero l = refl
take_take (suc n) [] = refl
take_take (suc n) (y ∷ l) = ap (λ t. y ∷ t) (take_take n l)

-- those that aren't kept are dropped for good
pub take_again : {X : Type 0} (n : ℕ) (x : X) (l : List X) → take n (x ∷ take n l) ≡ take n (x ∷ l)
take_again zero x l = refl
take_again (suc n) x l = ap (λ t. x ∷ t) (take_take n l)

-- the newest that isn't kept
pub first_dropped : (otherwise n : ℕ) (l : List Addition) → first_revision (first_revision otherwise (drop (suc n) l)) (drop n (take (suc n) l)) ≡ first_revision otherwise (drop n l)
first_dropped otherwise zero [] = refl
first_dropped otherwise zero (a ∷ l) = refl
first_dropped otherwise (suc n) [] = refl
first_dropped otherwise (suc n) (a ∷ l) = first_dropped otherwise n l

-- ---- additions after a revision

pub none_after : (past : List Change) (name : PartName) (revision : ℕ) → length past ≤ revision → later revision (added past name) ≡ []
none_after past name revision le =
    filter_none _ (added past name) (all_weaker (λ a. a.revision ≤ length past) (λ a. nat_lt revision a.revision ≡ false) (λ a k. le-ltb revision a.revision (omega (arith, k, le))) (added past name) (added_reached past name))

added_down : (past : List Change) (name : PartName) → IsAscending (λ a b. b.revision ≤ a.revision) (added past name)
unfolding added
added_down [] name = tt
added_down (change ∷ past) name = go (is_empty (comes (replay past) change name)) (added_down past name)
  where
    go : (t : Bool) → IsAscending (λ a b. b.revision ≤ a.revision) (added past name)
        → IsAscending (λ a b. b.revision ≤ a.revision) (cond t (added past name) (record { revision = length past + 1; hull = hull_of (comes (replay past) change name) } ∷ added past name))
    go true down = down
    go false down = (all_weaker (λ a. a.revision ≤ length past) (λ a. a.revision ≤ length past + 1) (λ a k. omega (arith, k)) (added past name) (added_reached past name), down)

-- the later of those that are kept, where all that aren't kept are no later
later_take : (n revision : ℕ) (l : List Addition) → IsAscending (λ a b. b.revision ≤ a.revision) l → ((a : Addition) (more : List Addition) → drop n l ≡ a ∷ more → a.revision ≤ revision) → later revision (take n l) ≡ later revision l
later_take zero revision [] down last = refl
later_take zero revision (a ∷ l) down last =
    let first = last a l refl in
    sym (filter_none (λ x. nat_lt revision x.revision) (a ∷ l) (le-ltb revision a.revision first, all_weaker (λ b. b.revision ≤ a.revision) (λ b. nat_lt revision b.revision ≡ false) (λ b k. le-ltb revision b.revision (omega (arith, k, first))) l down.0))
later_take (suc n) revision [] down last = refl
later_take (suc n) revision (a ∷ l) down last = go (nat_lt revision a.revision) (later_take n revision l down.1 last)
  where
    go : (t : Bool) → later revision (take n l) ≡ later revision l → cond t (a ∷ later revision (take n l)) (later revision (take n l)) ≡ cond t (a ∷ later revision l) (later revision l)
    go true e = ap (λ x. a ∷ x) e
    go false e = e

-- those since the birth are all that are later, where the birth isn't
later_since : (revision born : ℕ) (l : List Addition) → born ≤ revision + 1 → later revision (filter (λ a. not (nat_lt a.revision born)) l) ≡ later revision l
later_since revision born l le = filter-filter (λ a. nat_lt revision a.revision) (λ a. not (nat_lt a.revision born)) (λ a h. ap not (le-ltb a.revision born (omega (arith, le, ltb-true revision a.revision h)))) l

first_reached : (otherwise revision : ℕ) (l : List Addition) → first_revision otherwise l ≤ revision → (a : Addition) (more : List Addition) → l ≡ a ∷ more → a.revision ≤ revision
first_reached otherwise revision l le a more is = rw is at le

all_dropped : {X : Type 0} (P : X → Type 0) (n : ℕ) (xs : List X) → AllByRecursion P xs → AllByRecursion P (drop n xs)
all_dropped P zero xs all = all
all_dropped P (suc n) [] all = tt
all_dropped P (suc n) (x ∷ xs) all = all_dropped P n xs all.1

pub all_taken : {X : Type 0} (P : X → Type 0) (n : ℕ) (xs : List X) → AllByRecursion P xs → AllByRecursion P (take n xs)
all_taken P zero xs all = tt
all_taken P (suc n) [] all = tt
all_taken P (suc n) (x ∷ xs) all = (all.0, all_taken P n xs all.1)

-- the part was made by then, where the additions are kept from then on
pub birth_kept : (past : List Change) (name : PartName) (revision : ℕ) → kept_from past name ≤ revision → birth past name ≤ revision + 1
birth_kept past name revision kept = go (drop 64 (additions past name)) (all_dropped _ 64 (additions past name) (all_passing (λ a. not (nat_lt a.revision (birth past name))) (added past name))) kept
  where
    go : (l : List Addition) → AllByRecursion (λ a. not (nat_lt a.revision (birth past name)) ≡ true) l → first_revision (birth past name - 1) l ≤ revision → birth past name ≤ revision + 1
    go [] all le = omega (arith, le)
    go (a ∷ l) all le = test (nat_lt a.revision (birth past name)) refl all.0
      where
        test : (t : Bool) → nat_lt a.revision (birth past name) ≡ t → not t ≡ true → birth past name ≤ revision + 1
        test true e k = never false k refl
        test false e k = let m = ltb-false a.revision (birth past name) e in omega (arith, m, le)

-- all later additions are kept, where those from then on are
pub later_kept : (past : List Change) (name : PartName) (revision : ℕ) → kept_from past name ≤ revision → later revision (take 64 (additions past name)) ≡ later revision (added past name)
later_kept past name revision kept =
    later_take 64 revision (additions past name) (ascending-filter (λ a b. b.revision ≤ a.revision) (λ a. not (nat_lt a.revision (birth past name))) (added past name) (added_down past name))
    (first_reached (birth past name - 1) revision (drop 64 (additions past name)) kept)
    ∙ later_since revision (birth past name) (added past name) (birth_kept past name revision kept)
