use Rattle.std.proofs.Common.{ℕ, List, length, nat_lt, cond, None, ◌∙◌, ap, take}
use Rattle.sc_sort.specs.declared.key.Key.{Key}
use Rattle.sc_page.specs.Search.{last_key, shared}
use Rattle.sc_page.proofs.Collected.{page_of}
use Rattle.sc_page.proofs.Outcomes.{if_ok_both}
use Rattle.sc_page.proofs.first.FirstItems.into_page.Goals as goal

pub returns : goal.returns
returns c =
    let asked = c.args.search.now in
    let first = c.settle.new.self.first.items in
    let limited = c.limit.ensures.limit in
    if_ok_both _ _ _
    (λ page cut next items apart f.
    page_of asked c.settle.new.self items (shared page.items) page.next (c.in_ok-settle.ensures items apart f)
    (cut ∙ ap (λ (n : ℕ). take n (shared first)) limited)
    (next ∙ ap (λ (n : ℕ). cond (nat_lt n (length first)) (last_key c.sort.result.now (shared page.items)) None) limited
    ∙ ap (λ (keys : List Key). cond (nat_lt asked.limit (length first)) (last_key keys (shared page.items)) None) c.sort.ensures))
    c.cut.result c.cut.ensures.items c.cut.ensures.next
