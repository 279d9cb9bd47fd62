-- Numbers that stop at a limit.
use Rattle.std.proofs.Common.{◌≡◌, ℕ, ◌+◌, ◌*◌, ◌-◌, ◌<◌, ◌≤◌, min, List, [], ◌∷◌, length, get_or, drop, sym, ◌∙◌, ap, arith}
use Rattle.std.proofs.lemmas.List.{drop_more, drop_all}
use Rattle.sc_words.specs.Asks.{number_behind}

capped_behind : (a b most : ℕ) (ds : List ℕ) → min a most ≡ min b most → min (number_behind a ds) most ≡ min (number_behind b ds) most
capped_behind a b most [] e = e
capped_behind a b most (d ∷ ds) e = capped_behind (10 * a + (d - 48)) (10 * b + (d - 48)) most ds (omega arith)

-- one more digit
pub capped_more : (n next i most : ℕ) (ds : List ℕ) → i < length ds → next ≡ min (10 * n + (get_or ds i 0 - 48)) most → min (number_behind n (drop i ds)) most ≡ min (number_behind 0 ds) most → min (number_behind next (drop (i + 1) ds)) most ≡ min (number_behind 0 ds) most
capped_more n next i most ds lt e h =
    capped_behind next (10 * n + (get_or ds i 0 - 48)) most (drop (i + 1) ds) (omega arith)
    ∙ ap (λ t. min (number_behind n t) most) (sym (drop_more ds i 0 lt)) ∙ h

pub capped_all : (n i most : ℕ) (ds : List ℕ) → length ds ≤ i → n ≤ most → min (number_behind n (drop i ds)) most ≡ min (number_behind 0 ds) most → n ≡ min (number_behind 0 ds) most
capped_all n i most ds le s h = let e : min (number_behind n (drop i ds)) most ≡ min n most = ap (λ t. min (number_behind n t) most) (drop_all i ds le) in omega (arith, e, h)
