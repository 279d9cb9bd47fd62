-- How the call ends, by how reading ended.
use Rattle.std.proofs.Common.{◌≡◌, ℕ, ◌^◌, ◌<◌, ◌≤◌, Bool, true, false, ltb, ◌||◌, List, [], ◌∷◌, ◌++◌, length, refl, sym, ◌∙◌, ap, subst, arith}
use Rattle.std.specs.declared.option.Option.{Option}
use Rattle.std.proofs.lemmas.Bool.Decides.{nat_tests}
use Rattle.sc_item.specs.Feature.{Feature}
use Rattle.sc_outside.specs.Lines.{lines_to_read}
use Rattle.sc_outside.proofs.Joined.{concat-lines_of}
use Rattle.stacd.specs.Lines.{AreItems}
use Rattle.sc_page.specs.Order.{default_order}
use Rattle.sc_page.specs.Page.{every_item, bare_page_text, IsFlatPage}
use Rattle.sc_page.proofs.Listing.{one_page, default_item_order}
use Rattle.stacd.specs.Page.{lines_to_judge, EndsOn, IsAnswer}
use Rattle.stacd.proofs.Judging.{one_list}
use Rattle.stacd.specs.declared.page.PageEnd.{PageEnd}
use Rattle.stacd.specs.declared.page.PageEnd.TheVariants.{Done, BadLine, ReadFault, WriteFault, OutOfMemory}

-- lines that are items have at most 2^28 bytes
pub within : (bytes : List ℕ) (items : List Feature) → AreItems (lines_to_read true bytes) items → length bytes ≤ 2 ^ 28
within bytes items are = subst (λ t. length t ≤ 2 ^ 28) (concat-lines_of bytes) are.spelled.short

past_limit : (ended : Bool) (n : ℕ) → 2 ^ 28 < n → (ended || ltb (2 ^ 28) n) ≡ true
past_limit true n h = refl
past_limit false n h = grind (arith, nat_tests)

-- where the source ended, all lines are lines_to_read
pub ends_at_end : (end : PageEnd) (limit : ℕ) (bytes : List ℕ) (ended : Bool) (old new : Option (List ℕ)) → ended ≡ true → EndsOn end limit (lines_to_read true bytes) true old new → EndsOn end limit (lines_to_judge bytes ended) ended old new
ends_at_end end limit bytes ended old new e h = subst (λ t. EndsOn end limit (lines_to_judge bytes t) t old new) (sym e) h

-- and so they are past the limit, where the end can't be a page
pub ends_past_limit : (end : PageEnd) (limit : ℕ) (bytes : List ℕ) (ended : Bool) (old new : Option (List ℕ)) → 2 ^ 28 < length bytes → EndsOn end limit (lines_to_read true bytes) true old new → EndsOn end limit (lines_to_judge bytes ended) ended old new
ends_past_limit end limit bytes ended old new l h =
    subst (λ t. EndsOn end limit (lines_to_read t bytes) ended old new) (sym (past_limit ended (length bytes) l)) (by end h)
  where
    by : (e : PageEnd) → EndsOn e limit (lines_to_read true bytes) true old new → EndsOn e limit (lines_to_read true bytes) ended old new
    by Done (t, text, a, w) = let m = within bytes a.items a.are in absurd (omega arith)
    by (BadLine n) h = h
    by ReadFault h = h
    by WriteFault (t, text, a, w) = let m = within bytes a.items a.are in absurd (omega arith)
    by OutOfMemory h = h

-- lines have at most one page
pub one_answer : (lines : List (List ℕ)) (limit : ℕ) (a b : List ℕ) → IsAnswer lines limit a → IsAnswer lines limit b → a ≡ b
one_answer lines limit a b p q =
    let e : p.items ≡ q.items = one_list lines p.items q.items p.are.spelled.each q.are.spelled.each in
    let f = subst (λ t. IsFlatPage every_item default_order limit t p.page) e p.flat in
    p.is ∙ ap (λ t. bare_page_text t ++ 10 ∷ []) (one_page every_item default_order limit default_item_order q.items p.page q.page f q.flat) ∙ sym q.is
