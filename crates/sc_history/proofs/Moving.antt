-- What an install answers and leaves, and the bounds that a load leaves, by the history alone.
use Rattle.std.proofs.Common.{◌≡◌, ℕ, ◌+◌, Bool, true, false, not, cond, eqb, nat_lt, List, [], ◌∷◌, length, Option, Some, None, option_map, refl, sym, ap, ◌∙◌, ltb-false}
use Rattle.std.proofs.lemmas.List.{append-nil}
use Rattle.sc_bounds.specs.Extent.{Extent}
use Rattle.sc_bounds.specs.Sets.{join_of, meet_of}
use Rattle.sc_item.specs.Feature.{Feature}
use Rattle.sc_cut.specs.declared.name.PartName.{PartName}
use Rattle.sc_history.specs.Changes.{Change, takes}
use Rattle.sc_history.specs.Names.{hull_of, is_empty, part_of, scan_of}
use Rattle.sc_history.specs.History.{replay, added, comes, join_all, kept_from, stamp, touches}
use Rattle.sc_history.specs.Refusals.{IsAllowed}
use Rattle.sc_history.specs.Taken.{IsPast}
use Rattle.sc_history.specs.Part.{Part, bounds_of, lookup}
use Rattle.sc_history.specs.Touch.{ArePublished, bounds_next, made, part_after, renewed, stamped, touched, unless_empty, widened}
use Rattle.sc_history.specs.Sound.{Stand, Stands, StandsAs}
use Rattle.sc_history.specs.Installs.{AreInstalled, answer, answer_in, bounds_after, bounds_in, installed, joined_bounds, later}
use Rattle.sc_history.proofs.Scans.{scan_empty, scan_nothing}
use Rattle.sc_history.proofs.Names.{name_self}
use Rattle.sc_history.proofs.Numbers.{later_kept}
use Rattle.sc_history.proofs.Standing.{Next, next_untouched, scan_next}
use Rattle.sc_history.proofs.Pasts.{past_next}

-- a part that stands has items
some_items : (past : List Change) (name : PartName) (part : Part) → StandsAs past name part → is_empty (part_of (replay past) name) ≡ false
some_items past name part old = sym (scan_empty (part_of (replay past) name)) ∙ ap is_empty (sym old.items_are) ∙ old.some

-- ---- installs

answers : (past : List Change) (name : PartName) (revision : ℕ) (part : Option Part) → Stands past name part → answer revision part ≡ answer_in past name revision
answers past name revision None none = rw none refl
answers past name revision (Some part) old = rw (old.stamp_is, old.kept_is, some_items past name part old) refl

pub answer_is : (past : List Change) (parts : List Part) (name : PartName) (revision : ℕ) → Stand past parts → answer revision (lookup name parts) ≡ answer_in past name revision
answer_is past parts name revision stand = answers past name revision (lookup name parts) (stand.each name)

-- all additions since are kept, where the hull isn't too old
bounds_left : (past : List Change) (name : PartName) (revision : ℕ) (hull : Extent) (part : Part) → StandsAs past name part → bounds_after revision hull part ≡ bounds_in past name revision hull part.bounds
bounds_left past name revision hull part old = rw (old.stamp_is, old.kept_is) (go (eqb revision (stamp past name)) (nat_lt revision (kept_from past name)) refl)
  where
    go : (same early : Bool) → nat_lt revision (kept_from past name) ≡ early
        → cond same hull (cond early part.bounds (joined_bounds revision hull part)) ≡ cond same hull (cond early part.bounds (meet_of part.bounds (join_all hull (later revision (added past name)))))
    go true early e = refl
    go false true e = refl
    go false false e =
        let le = ltb-false revision (kept_from past name) e in
        ap (λ l. meet_of part.bounds (join_all hull l)) (ap (later revision) old.additions_are ∙ later_kept past name revision le)

pub bounds_installed : (past : List Change) (name : PartName) (revision : ℕ) (hull : Extent) (old new : List Part) → Stand past old → AreInstalled name revision hull old new
    → bounds_of name new ≡ option_map (bounds_in past name revision hull) (bounds_of name old)
bounds_installed past name revision hull old new stand are = rw (are.each name, name_self name) (go (lookup name old) (stand.each name))
  where
    go : (part : Option Part) → Stands past name part → option_map (λ p. p.bounds) (option_map (installed revision hull) part) ≡ option_map (bounds_in past name revision hull) (option_map (λ p. p.bounds) part)
    go None none = refl
    go (Some part) old = ap Some (bounds_left past name revision hull part old)

-- ---- loads

-- a name that had no items
bounds_made : (past : List Change) (change : Change) (name : PartName) → Next past change → part_of (replay past) name ≡ [] → touches (replay past) change name ≡ true
    → option_map (λ p. p.bounds) (touched (length past + 1) name (takes change.load) (comes (replay past) change name) None) ≡ bounds_next past change name None
unfolding touched replay
bounds_made past change name n none e =
    let come = comes (replay past) change name in
    let before : scan_of (part_of (replay past) name) ≡ [] = ap scan_of none ∙ scan_nothing in
    let items : scan_of (part_of (replay (change ∷ past)) name) ≡ scan_of come = scan_next past change name n e ∙ rw before (ap scan_of (append-nil come)) in
    let after : is_empty (part_of (replay (change ∷ past)) name) ≡ is_empty come = sym (scan_empty (part_of (replay (change ∷ past)) name)) ∙ ap is_empty items ∙ scan_empty come in
    rw (scan_empty come, after, none) (go (is_empty come))
  where
    go : (b : Bool) → option_map (λ p. p.bounds) (cond b None (Some (made (length past + 1) name (comes (replay past) change name)))) ≡ cond b None (cond b None (cond (not b) (Some (hull_of (comes (replay past) change name))) None))
    go true = refl
    go false = refl

-- a name that had some
bounds_aged : (past : List Change) (change : Change) (name : PartName) (part : Part) → Next past change → StandsAs past name part → touches (replay past) change name ≡ true
    → option_map (λ p. p.bounds) (touched (length past + 1) name (takes change.load) (comes (replay past) change name) (Some part)) ≡ bounds_next past change name (Some part.bounds)
unfolding touched replay
bounds_aged past change name part n old e =
    let items : scan_of (part_of (replay (change ∷ past)) name) ≡ scan_of (renewed (takes change.load) (comes (replay past) change name) part.items) =
    scan_next past change name n e ∙ ap (λ l. scan_of (renewed (takes change.load) (comes (replay past) change name) l)) (sym old.items_are) in
    let after = sym (scan_empty (part_of (replay (change ∷ past)) name)) ∙ ap is_empty items in
    rw (after, some_items past name part old) (go (comes (replay past) change name))
  where
    go : (come : List Feature)
        → option_map (λ p. p.bounds) (unless_empty (widened (length past + 1) come (stamped (length past + 1) (scan_of (renewed (takes change.load) come part.items)) part)))
        ≡ cond (is_empty (scan_of (renewed (takes change.load) come part.items))) None (cond (is_empty come) (Some part.bounds) (Some (join_of part.bounds (hull_of come))))
    go [] = one (is_empty (scan_of (renewed (takes change.load) [] part.items)))
      where
        one : (b : Bool) → option_map (λ p. p.bounds) (cond b None (Some (stamped (length past + 1) (scan_of (renewed (takes change.load) [] part.items)) part))) ≡ cond b None (Some part.bounds)
        one true = refl
        one false = refl
    go (x ∷ xs) = one (is_empty (scan_of (renewed (takes change.load) (x ∷ xs) part.items)))
      where
        one : (b : Bool)
            → option_map (λ p. p.bounds) (cond b None (Some (widened (length past + 1) (x ∷ xs) (stamped (length past + 1) (scan_of (renewed (takes change.load) (x ∷ xs) part.items)) part))))
            ≡ cond b None (Some (join_of part.bounds (hull_of (x ∷ xs))))
        one true = refl
        one false = refl

-- a name that the load doesn't touch
bounds_stay : (past : List Change) (change : Change) (name : PartName) (part : Option Part) → Next past change → Stands past name part → touches (replay past) change name ≡ false
    → option_map (λ p. p.bounds) part ≡ bounds_next past change name (option_map (λ p. p.bounds) part)
unfolding replay
bounds_stay past change name None n none e =
    let both = next_untouched past change name n e in
    rw (both.1, none) refl
bounds_stay past change name (Some part) n old e =
    let both = next_untouched past change name n e in
    rw (both.1, some_items past name part old, both.0) refl

bounds_after_load : (past : List Change) (change : Change) (name : PartName) (part : Option Part) → Next past change → Stands past name part
    → option_map (λ p. p.bounds) (part_after past change name part) ≡ bounds_next past change name (option_map (λ p. p.bounds) part)
bounds_after_load past change name part n stands = go (touches (replay past) change name) refl part stands
  where
    go : (b : Bool) → touches (replay past) change name ≡ b → (old : Option Part) → Stands past name old
        → option_map (λ p. p.bounds) (cond b (touched (length past + 1) name (takes change.load) (comes (replay past) change name) old) old) ≡ bounds_next past change name (option_map (λ p. p.bounds) old)
    go true e None none = bounds_made past change name n none e
    go true e (Some part) old = bounds_aged past change name part n old e
    go false e old stands = bounds_stay past change name old n stands e

pub bounds_move : (past : List Change) (change : Change) (old new : List Part) (name : PartName) → IsPast past → IsAllowed (replay past) change → Stand past old → ArePublished past change old new
    → bounds_of name new ≡ bounds_next past change name (bounds_of name old)
bounds_move past change old new name is allowed stand are = rw (are.each name) (bounds_after_load past change name (lookup name old) (past_next past change is allowed) (stand.each name))
