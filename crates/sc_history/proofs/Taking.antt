-- Snapshots, tickets and hulls: they are taken of what stands, and stay as the history grows.
use Rattle.std.proofs.Common.{◌≡◌, ℕ, ◌≤◌, Bool, true, false, List, [], ◌∷◌, ◌++◌, length, refl, sym, ap, ◌∙◌, subst, arith}
use Rattle.sc_bounds.specs.Extent.{Extent}
use Rattle.sc_item.specs.Feature.{Feature}
use Rattle.sc_cut.specs.declared.name.PartName.{PartName}
use Rattle.sc_history.specs.Changes.{Change}
use Rattle.sc_history.specs.Names.{hull_of, is_empty, part_of, scan_of}
use Rattle.sc_history.specs.History.{replay, back, stamp, touches}
use Rattle.sc_history.specs.Taken.{IsPast}
use Rattle.sc_history.specs.Part.{Part}
use Rattle.sc_history.specs.Sound.{Stand, StandsAs}
use Rattle.sc_history.specs.Views.{IsSnapshot, IsStamp, IsTicket, IsTight, Snap}
use Rattle.sc_history.proofs.Texts.{never}
use Rattle.sc_history.proofs.Scans.{scan_empty}
use Rattle.sc_history.proofs.Numbers.{stamp_reached, stamp_touched, stamp_untouched}
use Rattle.sc_history.proofs.Standing.{part_same}
use Rattle.sc_history.proofs.Pasts.{back_grown, back_less, back_whole, longer, past_next}
use Rattle.sc_history.proofs.Installing.{since_stamp}

-- ---- taken

pub snapshot_taken : (past : List Change) (parts : List Part) → Stand past parts → IsSnapshot past (record { revision = length past; collections = (replay past).collections; parts = parts })
snapshot_taken past parts stand =
    let whole = back_whole past (length past) (omega arith) in
    record {
      reached = omega arith;
      collections_are = ap (λ p. (replay p).collections) (sym whole);
      stand = subst (λ p. Stand p parts) (sym whole) stand;
    }

nothing_there : (name : PartName) → is_empty (part_of (replay []) name) ≡ true
unfolding replay
nothing_there name = refl

-- where a part has items a load touched it
stamp_from : (past : List Change) (name : PartName) → IsPast past → is_empty (part_of (replay past) name) ≡ false → 1 ≤ stamp past name
stamp_from [] name is some = never (is_empty (part_of (replay []) name)) (nothing_there name) some
stamp_from (change ∷ past) name is some = go (touches (replay past) change name) refl (stamp_from past name is.1)
  where
    go : (b : Bool) → touches (replay past) change name ≡ b → (is_empty (part_of (replay past) name) ≡ false → 1 ≤ stamp past name) → 1 ≤ stamp (change ∷ past) name
    go true e more = let s = stamp_touched past change name e in omega (arith, s)
    go false e more =
        let s = stamp_untouched past change name e in
        let before = more (ap is_empty (sym (part_same past change name (past_next past change is.1 is.0.allowed) e)) ∙ some) in
        omega (arith, s, before)

-- the last load that touched a part is that of its stamp
stamp_then : (past : List Change) (name : PartName) → stamp (back (stamp past name) past) name ≡ stamp past name
stamp_then [] name = ap (λ p. stamp p name) (back_whole [] (stamp [] name) (omega arith))
stamp_then (change ∷ past) name = go (touches (replay past) change name) refl (stamp_then past name)
  where
    go : (b : Bool) → touches (replay past) change name ≡ b → stamp (back (stamp past name) past) name ≡ stamp past name → stamp (back (stamp (change ∷ past) name) (change ∷ past)) name ≡ stamp (change ∷ past) name
    go true e more =
        let s = stamp_touched past change name e in
        ap (λ p. stamp p name) (back_whole (change ∷ past) (stamp (change ∷ past) name) (omega (arith, s)))
    go false e more =
        let s = stamp_untouched past change name e in
        let le = stamp_reached past name in
        ap (λ r. stamp (back r (change ∷ past)) name) s ∙ ap (λ p. stamp p name) (back_less past change (stamp past name) le) ∙ more ∙ sym s

stamp_of_part : (past : List Change) (name : PartName) (part : Part) → IsPast past → StandsAs past name part → IsStamp past name part.stamp
stamp_of_part past name part is old =
    let some : is_empty (part_of (replay past) name) ≡ false = sym (scan_empty (part_of (replay past) name)) ∙ ap is_empty (sym old.items_are) ∙ old.some in
    let since = since_stamp past name is in
    let at : IsStamp past name (stamp past name) = record {
      from = stamp_from past name is some;
      reached = stamp_reached past name;
      touched = stamp_then past name;
      some = ap is_empty since ∙ some;
    } in
    subst (IsStamp past name) (sym old.stamp_is) at

-- a look at a part gives its ticket
pub ticket_taken : (past : List Change) (name : PartName) (part : Part) → IsPast past → StandsAs past name part → IsTicket past name part.stamp part.items
ticket_taken past name part is old = record {
  at = stamp_of_part past name part is old;
  items_are = old.items_are ∙ ap scan_of (sym (since_stamp past name is)) ∙ ap (λ r. scan_of (part_of (replay (back r past)) name)) (sym old.stamp_is);
}

pub ticket_tight : (past : List Change) (name : PartName) (revision : ℕ) (items : List Feature) → IsTicket past name revision items → IsTight past name revision (hull_of items)
ticket_tight past name revision items t = record { at = t.at; hull_is = ap hull_of t.items_are }

-- ---- they stay

pub snapshot_stays : (newer past : List Change) (snap : Snap) → IsSnapshot past snap → IsSnapshot (newer ++ past) snap
snapshot_stays newer past snap is =
    let same = back_grown newer past snap.revision is.reached in
    record {
      reached = longer newer past snap.revision is.reached;
      collections_are = is.collections_are ∙ ap (λ p. (replay p).collections) (sym same);
      stand = subst (λ p. Stand p snap.parts) (sym same) is.stand;
    }

stamp_stays : (newer past : List Change) (name : PartName) (revision : ℕ) → IsStamp past name revision → IsStamp (newer ++ past) name revision
stamp_stays newer past name revision is =
    let same = back_grown newer past revision is.reached in
    record {
      from = is.from;
      reached = longer newer past revision is.reached;
      touched = subst (λ p. stamp p name ≡ revision) (sym same) is.touched;
      some = subst (λ p. is_empty (part_of (replay p) name) ≡ false) (sym same) is.some;
    }

pub ticket_stays : (newer past : List Change) (name : PartName) (revision : ℕ) (items : List Feature) → IsTicket past name revision items → IsTicket (newer ++ past) name revision items
ticket_stays newer past name revision items is = record {
  at = stamp_stays newer past name revision is.at;
  items_are = is.items_are ∙ ap (λ p. scan_of (part_of (replay p) name)) (sym (back_grown newer past revision is.at.reached));
}

pub tight_stays : (newer past : List Change) (name : PartName) (revision : ℕ) (b : Extent) → IsTight past name revision b → IsTight (newer ++ past) name revision b
tight_stays newer past name revision b is = record {
  at = stamp_stays newer past name revision is.at;
  hull_is = is.hull_is ∙ ap (λ p. hull_of (scan_of (part_of (replay p) name))) (sym (back_grown newer past revision is.at.reached));
}
