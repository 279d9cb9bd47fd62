-- What a snapshot has, whichever history it is of; and the parts that a load touched, by the history alone.
use Rattle.std.proofs.Common.{◌≡◌, List, map, filter, flat_map, refl, ap, ◌∙◌, sym, IsPermutation}
use Rattle.std.specs.List.{All}
use Rattle.std.proofs.lemmas.List.Elements.{All-weaker}
use Rattle.sc_item.specs.Names.{AreApart}
use Rattle.sc_cut.specs.declared.name.PartName.{PartName}
use Rattle.sc_part.proofs.Changing.{apart_in_any_order}
use Rattle.sc_history.specs.Changes.{Change, apply}
use Rattle.sc_history.specs.History.{replay, back, touches}
use Rattle.sc_history.specs.Refusals.{IsAllowed}
use Rattle.sc_history.specs.Taken.{IsPast}
use Rattle.sc_history.specs.Part.{Part}
use Rattle.sc_history.specs.Touch.{ArePublished, AreTouched, touched_names}
use Rattle.sc_history.specs.Sound.{CoversAll, Stand, StandsAs}
use Rattle.sc_history.specs.Views.{IsSnapshot, Snap, Stood}
use Rattle.sc_history.proofs.Pasts.{back_past, past_content}
use Rattle.sc_history.proofs.Lawful.{all_items, each_part, parts_after_load}
use Rattle.sc_history.proofs.Counting.{one_list_of_parts}

-- ---- snapshots

pub snapshot_covers : (snap : Snap) → Stood snap → All (λ part. CoversAll part.bounds part.items) snap.parts
snapshot_covers snap is =
    let then = back snap.revision is.past in
    All-weaker (λ part. StandsAs then part.name part) (λ part. CoversAll part.bounds part.items) (λ part stands. stands.covers) snap.parts (each_part then snap.parts is.has.stand)

pub snapshot_items : (past : List Change) (snap : Snap) → IsPast past → IsSnapshot past snap → IsPermutation (replay (back snap.revision past)).items (flat_map (λ part. part.items) snap.parts)
snapshot_items past snap is has = all_items (back snap.revision past) snap.parts (back_past past snap.revision is) has.stand

pub snapshot_apart : (snap : Snap) → Stood snap → AreApart (flat_map (λ part. part.items) snap.parts)
snapshot_apart snap is =
    let then = back snap.revision is.past in
    apart_in_any_order (replay then).items (flat_map (λ (part : Part). part.items) snap.parts) (snapshot_items is.past snap is.is is.has) (past_content then (back_past is.past snap.revision is.is)).items_apart

-- ---- touched parts

pub are_touched : (past : List Change) (change : Change) (old new : List Part) → IsPast past → IsAllowed (replay past) change → Stand past old → ArePublished past change old new → AreTouched past change (touched_names past change new)
are_touched past change old new is allowed stand are = record { all = map (λ part. part.name) new; are = parts_after_load past change old new is allowed stand are; names_are = refl }

pub one_touched : (past : List Change) (change : Change) (names others : List PartName) → AreTouched past change names → AreTouched past change others → names ≡ others
one_touched past change names others a b = a.names_are ∙ ap (filter (touches (replay past) change)) (one_list_of_parts (apply (replay past) change) a.all b.all a.are b.are) ∙ sym b.names_are
