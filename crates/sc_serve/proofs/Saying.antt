-- What is said of a work by a snapshot, as what is said of it by the history.
use Rattle.std.proofs.Common.{◌≡◌, ℕ, List, find, map, Option, false, ap, ◌∙◌, subst}
use Rattle.std.proofs.lemmas.List.Sorted.{IsPermutation-sym}
use Rattle.sc_history.specs.Content.{Collection, is_called, item_in}
use Rattle.sc_history.specs.History.{replay}
use Rattle.sc_history.specs.Views.{Snap}
use Rattle.sc_shelf.specs.Kept.{all_items}
use Rattle.sc_catalog.specs.declared.entry.Entry.{Entry}
use Rattle.sc_catalog.specs.Entries.{IsSnapshotOf}
use Rattle.sc_document.specs.Documents.{collections}
use Rattle.sc_expr.specs.Query.{Asked}
use Rattle.sc_page.specs.declared.links.Links.{Links}
use Rattle.sc_route.specs.declared.job.Work.TheVariants as Of
use Rattle.sc_said.specs.Said.{Saying, json}
use Rattle.sc_serve.specs.Replies.{SaysOf, OfSearch, of_collection, of_item}
use Rattle.sc_serve.proofs.Contents.{collections_of, items_of, item_of}
use Rattle.sc_serve.proofs.Pages.{search_again}

module _ (base : List ℕ) (entries : List Entry) (snap : Snap) (is : IsSnapshotOf entries snap) (said : Saying) where
  pub says_collections : said ≡ json (collections base (map (λ c. c.tree) snap.collections)) → SaysOf base Of.Collections entries false said
  says_collections e = (is.past, is.told, e ∙ ap (λ (cs : List Collection). json (collections base (map (λ c. c.tree) cs))) (collections_of entries snap is))

  pub says_collection : (id : List ℕ) → said ≡ of_collection id (find (is_called id) snap.collections) → SaysOf base (Of.Collection id) entries false said
  says_collection id e = (is.past, is.told, e ∙ ap (λ (cs : List Collection). of_collection id (find (is_called id) cs)) (collections_of entries snap is))

  pub says_item : (collection id : List ℕ) → said ≡ of_item collection id (find (is_called collection) snap.collections) (item_in (all_items snap.parts) collection id)
      → SaysOf base (Of.Item collection id) entries false said
  says_item collection id e = (
    is.past,
    is.told,
    e ∙ ap (λ (cs : List Collection). of_item collection id (find (is_called collection) cs) (item_in (all_items snap.parts) collection id)) (collections_of entries snap is)
        ∙ ap (of_item collection id (find (is_called collection) (replay is.past).collections)) (item_of entries snap is collection id),
  )

  pub says_search : (within : Option (List ℕ)) (asked : Asked) (links : Links) → OfSearch within asked links snap.collections (all_items snap.parts) said
      → SaysOf base (Of.Search within asked links) entries false said
  says_search within asked links s = (
    is.past,
    is.told,
    search_again asked links (all_items snap.parts) (replay is.past).items (IsPermutation-sym _ _ (items_of entries snap is)) said within (replay is.past).collections
        (subst (λ (cs : List Collection). OfSearch within asked links cs (all_items snap.parts) said) (collections_of entries snap is) s),
  )
