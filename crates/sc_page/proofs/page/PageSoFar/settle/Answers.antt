use Rattle.std.proofs.Common.{rules, refl, subst}
use Rattle.std.proofs.lemmas.List.Sorted.{ranks_by, answers_always}
use Rattle.std.specs.List.Sorted.{IsPermutation}
use Rattle.sc_page.proofs.Growing.{settled_so_far}
use Rattle.sc_page.proofs.Listing.{default_total}
use Rattle.sc_page.proofs.page.PageSoFar.settle.Goals as goal

pub returns : goal.returns
returns c limit items apart s =
    settled_so_far limit c.args.self.now _ items c.sort_by.new.self.items apart s (subst (λ t. IsPermutation t c.sort_by.new.self.items) c.in_ok-append.ensures.items c.in_ok-sort_by.ensures.permutation)
    (c.in_ok-sort_by.ensures.sorted _ (ranks_by default_total (λ x. x)) (answers_always _ _ _ (λ f a r f' k. search rules))) refl c.truncate.ensures.items c.in_ok-append.ensures.other_items
