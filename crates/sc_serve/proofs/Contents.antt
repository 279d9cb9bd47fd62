-- What a snapshot has of the content of its history.
use Rattle.std.proofs.Common.{◌≡◌, ℕ, List, map, IsPermutation, ap, ◌∙◌, subst, arith}
use Rattle.std.proofs.lemmas.List.{length-reverse, length-map}
use Rattle.sc_history.specs.Content.{item_in}
use Rattle.sc_history.specs.Changes.{Change}
use Rattle.sc_history.specs.History.{back, replay}
use Rattle.sc_history.specs.Sound.{Stand}
use Rattle.sc_history.specs.Views.{Snap}
use Rattle.sc_history.proofs.Pasts.{back_whole, past_content}
use Rattle.sc_history.proofs.Belonging.{stand_items}
use Rattle.sc_history.proofs.Telling.{told_length}
use Rattle.sc_shelf.specs.Kept.{all_items}
use Rattle.sc_shelf.proofs.Standing.{found_as_content}
use Rattle.sc_catalog.specs.declared.entry.Entry.{Entry}
use Rattle.sc_catalog.specs.Entries.{IsSnapshotOf, loads_of}

module _ (entries : List Entry) (snap : Snap) (is : IsSnapshotOf entries snap) where
  whole : back snap.revision is.past ≡ is.past
  whole =
      let e = told_length (loads_of entries) is.past is.told ∙ length-reverse (map (λ (e : Entry). e.load) entries) ∙ length-map entries (λ (e : Entry). e.load) in
      back_whole is.past snap.revision (omega (arith, e, is.revision_is))

  pub collections_of : snap.collections ≡ (replay is.past).collections
  collections_of = is.is.collections_are ∙ ap (λ (p : List Change). (replay p).collections) whole

  stand_of : Stand is.past snap.parts
  stand_of = subst (λ p. Stand p snap.parts) whole is.is.stand

  pub item_of : (collection id : List ℕ) → item_in (all_items snap.parts) collection id ≡ item_in (replay is.past).items collection id
  item_of collection id = found_as_content is.past snap.parts collection id is.told.accepted stand_of

  pub items_of : IsPermutation (replay is.past).items (all_items snap.parts)
  items_of = stand_items is.past snap.parts (past_content is.past is.told.accepted) stand_of
