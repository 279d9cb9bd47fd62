-- One item more, and what waits sorted in.
use Rattle.std.proofs.Common.{◌≡◌, ℕ, true, false, cond, List, [], ◌∷◌, ◌++◌, filter, append-nil, append_assoc, sym, ap, subst, ◌∙◌, Ordering}
use Rattle.std.proofs.lemmas.List.Elements.{filter-append}
use Rattle.sc_item.specs.Feature.{Feature}
use Rattle.sc_page.specs.declared.page.PageSoFar.{PageSoFar}
use Rattle.sc_page.specs.Kept.{AreKept, HasSeen}
use Rattle.sc_page.specs.Leading.{last_of_full, may_stand}
use Rattle.sc_page.specs.Order.{default_order}

module _ (order : Feature → Feature → Ordering) (limit : ℕ) where
  module _ (page waiting items : List Feature) (x : Feature) (k : AreKept order limit page waiting items) where
    joined : items ++ x ∷ [] ≡ k.first ++ (k.others ++ x ∷ [])
    joined = ap (λ t. t ++ x ∷ []) k.all ∙ append_assoc k.first k.others (x ∷ [])

    split : filter (may_stand order (last_of_full limit page)) (k.others ++ x ∷ []) ≡ waiting ++ cond (may_stand order (last_of_full limit page) x) (x ∷ []) []
    split = filter-append (may_stand order (last_of_full limit page)) k.others (x ∷ []) ∙ ap (λ t. t ++ cond (may_stand order (last_of_full limit page) x) (x ∷ []) []) (sym k.wait)

    -- an item that may not stand on the page
    pub kept_without : may_stand order (last_of_full limit page) x ≡ false → AreKept order limit page waiting (items ++ x ∷ [])
    kept_without e = record {
      first = k.first;
      others = k.others ++ x ∷ [];
      all = joined;
      flat = k.flat;
      wait = sym (split ∙ ap (λ b. waiting ++ cond b (x ∷ []) []) e ∙ append-nil waiting);
    }

    -- an item that waits
    pub kept_with : may_stand order (last_of_full limit page) x ≡ true → AreKept order limit page (waiting ++ x ∷ []) (items ++ x ∷ [])
    kept_with e = record {
      first = k.first;
      others = k.others ++ x ∷ [];
      all = joined;
      flat = k.flat;
      wait = sym (split ∙ ap (λ b. waiting ++ cond b (x ∷ []) []) e);
    }

-- the same of the page of the items so far
pub seen_with : (limit : ℕ) (old new : PageSoFar) (items : List Feature) (x : Feature) → HasSeen limit old items → may_stand default_order (last_of_full old.limit old.page.items) x ≡ true → new.limit ≡ old.limit → new.page.items ≡ old.page.items
    → new.waiting.items ≡ old.waiting.items ++ x ∷ [] → HasSeen limit new (items ++ x ∷ [])
seen_with limit old new items x s may l p w =
    let k = kept_with default_order limit old.page.items old.waiting.items items x s.kept (subst (λ n. may_stand default_order (last_of_full n old.page.items) x ≡ true) s.limited may) in
    record {
      limited = l ∙ s.limited;
      kept = subst (λ t. AreKept default_order limit t new.waiting.items (items ++ x ∷ [])) (sym p) (subst (λ t. AreKept default_order limit old.page.items t (items ++ x ∷ [])) (sym w) k);
    }
