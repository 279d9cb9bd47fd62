-- The text of a page without links, as that of a page with links of which there are none.
use Rattle.std.proofs.Common.{◌≡◌, List, ◌++◌, length, refl, ap}
use Rattle.std.specs.Fmt.{decimal}
use Rattle.std.specs.declared.option.Option.{Option}
use Rattle.sc_item.specs.Feature.{Feature}
use Rattle.sc_sort.specs.Keys.{Keys}
use Rattle.sc_page.specs.declared.links.Links.TheVariants.{Bare}
use Rattle.sc_page.specs.Page.{page_start, page_middle, page_end, documents, bare_page_text}
use Rattle.sc_page.specs.Linked.{links_start, links_text, links_end, linked_page_text}

no_link : (next : Option Keys) → links_start ++ (links_text Bare next ++ links_end) ≡ page_end
unfolding links_start links_text links_end page_end
no_link next = refl

pub bare_links : (page : List Feature) (next : Option Keys) → linked_page_text page next Bare ≡ bare_page_text page
bare_links page next = ap (λ t. page_start ++ (documents page ++ (page_middle ++ (decimal (length page) ++ t)))) (no_link next)
