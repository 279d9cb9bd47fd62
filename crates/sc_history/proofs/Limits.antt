-- A history without refused loads keeps the limits, and a hull of an earlier part of a name is too old.
use Rattle.std.proofs.Common.{◌≡◌, ℕ, ◌+◌, ◌-◌, ◌<◌, ◌≤◌, ◌^◌, Bool, true, false, not, eqb, nat_lt, List, [], ◌∷◌, length, refl, sym, ap, ◌∙◌, arith, lt-ltb, ltb-false, ltb-true, Some, ne_eqb}
use Rattle.std.specs.List.{sum_by}
use Rattle.std.proofs.lemmas.Bool.{and_parts}
use Rattle.std.proofs.lemmas.List.Sums.{sum_by-cons}
use Rattle.sc_cut.specs.declared.name.PartName.{PartName}
use Rattle.sc_load.specs.Load.{size_of}
use Rattle.sc_history.specs.declared.installed.Installed.TheVariants.{TooOld}
use Rattle.sc_history.specs.Changes.{Change, apply}
use Rattle.sc_history.specs.Names.{is_empty, part_of}
use Rattle.sc_history.specs.History.{replay, back, makes, birth, stamp, touches}
use Rattle.sc_history.specs.Refusals.{HasFewCollections, HasFewParts}
use Rattle.sc_history.specs.Taken.{IsPast}
use Rattle.sc_history.specs.Part.{Part}
use Rattle.sc_history.specs.Sound.{StandsAs}
use Rattle.sc_history.specs.Installs.{answer}
use Rattle.sc_history.specs.Views.{IsStamp}
use Rattle.sc_history.proofs.Texts.{never}
use Rattle.sc_history.proofs.Numbers.{birth_kept, birth_reached, stamp_touched, stamp_untouched}
use Rattle.sc_history.proofs.Standing.{part_same}
use Rattle.sc_history.proofs.Pasts.{back_less, back_whole, past_next}
use Rattle.sc_history.proofs.Counting.{stand_parts}
use Rattle.sc_history.proofs.Telling.{stand_nothing}

-- ---- limits

pub few_parts : (past : List Change) → IsPast past → HasFewParts (replay past)
unfolding replay
few_parts [] is = record { names = []; are_parts = stand_parts [] [] stand_nothing; few = omega arith }
few_parts (change ∷ past) is = is.0.parts

pub few_collections : (past : List Change) → IsPast past → HasFewCollections (replay past)
unfolding replay
few_collections [] is = omega arith
few_collections (change ∷ past) is = is.0.collections

pub few_entries : (past : List Change) → IsPast past → length past ≤ 1_000_000
few_entries [] is = omega arith
few_entries (change ∷ past) is = let room = is.0.room in let le = room.entries in omega (arith, le)

pub few_bytes : (past : List Change) → IsPast past → sum_by (λ change. size_of change.load) past ≤ 2 ^ 29
few_bytes [] is = omega arith
few_bytes (change ∷ past) is =
    let room = is.0.room in
    let le = room.bytes in
    let sum = sum_by-cons (λ (c : Change). size_of c.load) change past in
    omega (arith, le, sum)

-- ---- births

next_makes : (past : List Change) (change : Change) (name : PartName) → makes (replay past) change name ≡ true → (is_empty (part_of (replay past) name) ≡ true) × (is_empty (part_of (replay (change ∷ past)) name) ≡ false)
unfolding replay
next_makes past change name e =
    let both = and_parts (is_empty (part_of (replay past) name)) (not (is_empty (part_of (apply (replay past) change) name))) e in
    (both.0, turned (is_empty (part_of (apply (replay past) change) name)) both.1)
  where
    turned : (b : Bool) → not b ≡ true → b ≡ false
    turned true k = sym k
    turned false k = refl

birth_next : (past : List Change) (change : Change) (name : PartName) → makes (replay past) change name ≡ true → birth (change ∷ past) name ≡ length past + 1
unfolding birth
birth_next past change name e = rw e refl

birth_same : (past : List Change) (change : Change) (name : PartName) → makes (replay past) change name ≡ false → birth (change ∷ past) name ≡ birth past name
unfolding birth
birth_same past change name e = rw e refl

birth_nothing : (name : PartName) → birth [] name ≡ 0
unfolding birth
birth_nothing name = refl

-- before it was made a part was empty
empty_before : (past : List Change) (name : PartName) → 1 ≤ birth past name → is_empty (part_of (replay (back (birth past name - 1) past)) name) ≡ true
empty_before [] name le = absurd (omega (arith, le, birth_nothing name))
empty_before (change ∷ past) name le = go (makes (replay past) change name) refl (empty_before past name)
  where
    go : (b : Bool) → makes (replay past) change name ≡ b → (1 ≤ birth past name → is_empty (part_of (replay (back (birth past name - 1) past)) name) ≡ true)
        → is_empty (part_of (replay (back (birth (change ∷ past) name - 1) (change ∷ past))) name) ≡ true
    go true e more =
        let born = birth_next past change name e in
        let before : birth (change ∷ past) name - 1 ≡ length past = omega (arith, born) in
        let past_is : back (birth (change ∷ past) name - 1) (change ∷ past) ≡ past = ap (λ r. back r (change ∷ past)) before ∙ back_less past change (length past) (omega arith) ∙ back_whole past (length past) (omega arith) in
        ap (λ p. is_empty (part_of (replay p) name)) past_is ∙ (next_makes past change name e).0
    go false e more =
        let born = birth_same past change name e in
        let reached = birth_reached past name in
        let past_is : back (birth (change ∷ past) name - 1) (change ∷ past) ≡ back (birth past name - 1) past = ap (λ r. back (r - 1) (change ∷ past)) born ∙ back_less past change (birth past name - 1) (omega (arith, reached)) in
        ap (λ p. is_empty (part_of (replay p) name)) past_is ∙ more (omega (arith, le, born))

-- a load that makes a part touches it
birth_stamp : (past : List Change) (name : PartName) → IsPast past → birth past name ≤ stamp past name
birth_stamp [] name is = omega (arith, birth_nothing name)
birth_stamp (change ∷ past) name is = go (touches (replay past) change name) refl (makes (replay past) change name) refl (birth_stamp past name is.1)
  where
    go : (t : Bool) → touches (replay past) change name ≡ t → (b : Bool) → makes (replay past) change name ≡ b → birth past name ≤ stamp past name → birth (change ∷ past) name ≤ stamp (change ∷ past) name
    go true e b f more = let s = stamp_touched past change name e in let reached = birth_reached (change ∷ past) name in omega (arith, s, reached)
    go false e true f more =
        let made = next_makes past change name f in
        never (is_empty (part_of (replay past) name)) made.0 (ap is_empty (sym (part_same past change name (past_next past change is.1 is.0.allowed) e)) ∙ made.1)
    go false e false f more = let s = stamp_untouched past change name e in let born = birth_same past change name f in omega (arith, s, born, more)

-- a hull of an earlier part of the name is too old for the part that stands
pub earlier_too_old : (past : List Change) (name : PartName) (revision : ℕ) (part : Part) → IsPast past → StandsAs past name part → IsStamp past name revision → revision < birth past name → answer revision (Some part) ≡ TooOld part.kept_from
earlier_too_old past name revision part is old at earlier =
    let le = birth_stamp past name is in
    let stamp_is = old.stamp_is in
    let kept_is = old.kept_is in
    let other : eqb revision part.stamp ≡ false = ne_eqb revision part.stamp (λ same. absurd (omega (arith, same, stamp_is, le, earlier))) in
    rw (other, lt-ltb revision part.kept_from (kept (nat_lt revision part.kept_from) refl)) refl
  where
    kept : (b : Bool) → nat_lt revision part.kept_from ≡ b → revision < part.kept_from
    kept true e = ltb-true revision part.kept_from e
    kept false e =
        let le = ltb-false revision part.kept_from e in
        let kept_is = old.kept_is in
        let born = birth_kept past name revision (omega (arith, le, kept_is)) in
        let last : birth past name - 1 ≡ revision = omega (arith, born, earlier) in
        never (is_empty (part_of (replay (back revision past)) name)) (ap (λ r. is_empty (part_of (replay (back r past)) name)) (sym last) ∙ empty_before past name (omega (arith, earlier))) at.some
