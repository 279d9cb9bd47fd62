-- The order of the items of which a page is made is of no account.
use Rattle.std.proofs.Common.{ℕ, nat_lt, if◌then◌else◌, List, find, Option, Some, None, IsPermutation, sym, ap, ◌∙◌}
use Rattle.std.proofs.lemmas.List.Sorted.{IsPermutation-sym, IsPermutation-trans, length_permutation}
use Rattle.sqlite_keyed.proofs.ListLemmas.{IsPermutation-filter}
use Rattle.sc_item.specs.Feature.{Feature}
use Rattle.sc_history.specs.Content.{Collection, is_called}
use Rattle.sc_sort.specs.Keys.{Keys}
use Rattle.sc_expr.specs.Query.{Asked}
use Rattle.sc_page.specs.declared.links.Links.{Links}
use Rattle.sc_page.specs.Search.{is_asked, last_key, IsPage}
use Rattle.sc_said.specs.Said.{Saying}
use Rattle.sc_serve.specs.Replies.{TellsPage, OfSearchIn, OfSearch}

pub page_again : (asked : Asked) (xs ys page : List Feature) (next : Option Keys) → IsPermutation xs ys → IsPage asked xs page next → IsPage asked ys page next
page_again asked xs ys page next same is =
    let kept = IsPermutation-filter (is_asked asked) xs ys same in
    record {
      flat = record {
        listed = is.flat.listed;
        is_listing = record {
          same = IsPermutation-trans _ _ _ (IsPermutation-sym _ _ kept) is.flat.is_listing.same;
          ordered = is.flat.is_listing.ordered;
        };
        cut = is.flat.cut;
      };
      next_is = is.next_is ∙ ap (λ n. if nat_lt asked.limit n then last_key asked.sort page else None) (sym (length_permutation _ _ kept));
    }

module _ (asked : Asked) (links : Links) (xs ys : List Feature) (same : IsPermutation xs ys) (said : Saying) where
  told_again : TellsPage asked links xs said → TellsPage asked links ys said
  told_again t = (t.0, t.1, page_again asked xs ys t.0 t.1 same t.2, t.3)

  found_again : (found : Option Collection) (id : List ℕ) → OfSearchIn found id asked links xs said → OfSearchIn found id asked links ys said
  found_again None id s = s
  found_again (Some collection) id s = told_again s

  pub search_again : (within : Option (List ℕ)) (collections : List Collection) → OfSearch within asked links collections xs said → OfSearch within asked links collections ys said
  search_again None collections s = told_again s
  search_again (Some id) collections s = found_again (find (is_called id) collections) id s
