-- Searches, by what the fields of a machine are: the parts of a snapshot have all items of the history at its revision.
use Rattle.std.proofs.Common.{◌≡◌, ℕ, List, Some, None, option_map, refl, sym, ap, ◌∙◌, subst, IsPermutation}
use Rattle.std.specs.BTreeMap.{get}
use Rattle.std.proofs.lemmas.List.Sorted.{IsPermutation-sym}
use Rattle.sqlite_keyed.proofs.ListLemmas.{IsPermutation-filter}
use Rattle.sc_base.specs.Text.{text_order}
use Rattle.sc_json.specs.declared.tree.Json.{Json}
use Rattle.sc_history.specs.Changes.{Change}
use Rattle.sc_history.specs.History.{back, replay}
use Rattle.sc_history.specs.Views.{IsSnapshot, Snap}
use Rattle.sc_history.proofs.Belonging.{stand_items}
use Rattle.sc_history.proofs.Pasts.{back_past, past_content}
use Rattle.sc_shelf.specs.Kept.{all_items}
use Rattle.sc_expr.specs.Query.{Asked}
use Rattle.sc_page.specs.declared.found.Page.{Page}
use Rattle.sc_page.specs.Search.{IsPage, is_asked, shared}
use Rattle.sc_walk.proofs.Candidates.{page_of_same}
use Rattle.sc_catalog.specs.declared.entry.Entry.{Entry}
use Rattle.sc_catalog.specs.Entries.{TellsOf}
use Rattle.sc_catalog.specs.Holdings.{Holdings}
use Rattle.sc_catalog.proofs.Hulls.{snapshot_on}
use Rattle.sc_outcome.specs.declared.outcome.Outcome.{Outcome}
use Rattle.sc_outcome.specs.declared.outcome.Outcome.TheVariants as gives
use Rattle.sc_outcome.specs.Refused.{no_such_name}
use Rattle.sc_machine.specs.State.{named}
use Rattle.sc_machine.specs.Searches.{Answers, CountsIn, CountsSearch, SearchesIn, TakesSearch}
use Rattle.sc_machine.specs.Inside.{Hulls, IsOfHistory, Snaps, state_of, taken}
use Rattle.sc_machine.proofs.Seen.{named_seen}

module _ (entries : List Entry) (snap : Snap) (past : List Change) (told : TellsOf entries past) (of : IsOfHistory entries snap) where
  pub stands : IsSnapshot past snap
  stands = snapshot_on of.seen of.rest snap past of.is (subst (λ l. TellsOf l past) of.whole told)

  items_are : IsPermutation (replay (back snap.revision past)).items (all_items snap.parts)
  items_are = stand_items (back snap.revision past) snap.parts (past_content (back snap.revision past) (back_past past snap.revision told.accepted)) stands.stand

  pub answered : (asked : Asked) (page : Page) → IsPage asked (all_items snap.parts) (shared page.items) page.next → Answers entries (taken snap) asked (gives.Found snap.revision page)
  answered asked page is = record {
    past = past;
    told = told;
    page = page;
    is = page_of_same asked (all_items snap.parts) (replay (back snap.revision past)).items (shared page.items) page.next (IsPermutation-filter (is_asked asked) (all_items snap.parts) (replay (back snap.revision past)).items (IsPermutation-sym _ _ items_are)) is;
    outcome_is = refl;
  }

-- ---- snapshots by their names

pub search_nowhere : (holdings : Holdings) (snaps : Snaps) (hulls : Hulls) (name : List ℕ) (body : Json) (outcome : Outcome) → None ≡ get text_order snaps name → outcome ≡ no_such_name name
    → TakesSearch name (named name (state_of holdings snaps hulls).snapshots) body (state_of holdings snaps hulls) (state_of holdings snaps hulls) outcome
search_nowhere holdings snaps hulls name body outcome none told =
    subst (λ o. TakesSearch name o body (state_of holdings snaps hulls) (state_of holdings snaps hulls) outcome) (sym (named_seen taken snaps name ∙ ap (λ o. option_map taken o) (sym none))) (refl, told)

pub search_named : (holdings : Holdings) (snaps : Snaps) (hulls : Hulls) (name : List ℕ) (body : Json) (snap : Snap) (outcome : Outcome) → Some snap ≡ get text_order snaps name → SearchesIn (taken snap) body holdings.entries outcome
    → TakesSearch name (named name (state_of holdings snaps hulls).snapshots) body (state_of holdings snaps hulls) (state_of holdings snaps hulls) outcome
search_named holdings snaps hulls name body snap outcome there is =
    subst (λ o. TakesSearch name o body (state_of holdings snaps hulls) (state_of holdings snaps hulls) outcome) (sym (named_seen taken snaps name ∙ ap (λ o. option_map taken o) (sym there))) (refl, is)

pub count_nowhere : (holdings : Holdings) (snaps : Snaps) (hulls : Hulls) (name : List ℕ) (body : Json) (before : ℕ) → None ≡ get text_order snaps name
    → CountsSearch (named name (state_of holdings snaps hulls).snapshots) body holdings.entries before before
count_nowhere holdings snaps hulls name body before none = subst (λ o. CountsSearch o body holdings.entries before before) (sym (named_seen taken snaps name ∙ ap (λ o. option_map taken o) (sym none))) refl

pub count_named : (holdings : Holdings) (snaps : Snaps) (hulls : Hulls) (name : List ℕ) (body : Json) (snap : Snap) (before after : ℕ) → Some snap ≡ get text_order snaps name → CountsIn (taken snap) body holdings.entries before after
    → CountsSearch (named name (state_of holdings snaps hulls).snapshots) body holdings.entries before after
count_named holdings snaps hulls name body snap before after there is = subst (λ o. CountsSearch o body holdings.entries before after) (sym (named_seen taken snaps name ∙ ap (λ o. option_map taken o) (sym there))) is
