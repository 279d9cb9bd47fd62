-- Truth of many members, one after the other.
use Rattle.std.proofs.Common.{◌≡◌, ℕ, ◌<◌, Bool, true, false, ◌||◌, List, [], ◌∷◌, map, get_or, length, refl, sym, ap, ◌∙◌, arith, suc, zero}
use Rattle.std.specs.List.{list_any}
use Rattle.sc_expr.specs.declared.expr.Truth3.{Truth3}
use Rattle.sc_expr.specs.declared.expr.Truth3.TheVariants.{True, False, Unknown}
use Rattle.sc_eval.specs.Comparison.{and3, or3, if_known}

pub any_unknown : (b : Bool) (r : Truth3) → or3 (if_known False b) (or3 Unknown r) ≡ or3 Unknown r
any_unknown true True = refl
any_unknown true False = refl
any_unknown true Unknown = refl
any_unknown false True = refl
any_unknown false False = refl
any_unknown false Unknown = refl

pub any_decided : (b : Bool) (r : Truth3) → or3 (if_known False b) (or3 True r) ≡ True
any_decided true r = refl
any_decided false r = refl

pub any_ends : (b : Bool) → or3 (if_known False b) False ≡ if_known False b
any_ends true = refl
any_ends false = refl

pub all_unknown : (b : Bool) (r : Truth3) → and3 (if_known True b) (and3 Unknown r) ≡ and3 Unknown r
all_unknown true True = refl
all_unknown true False = refl
all_unknown true Unknown = refl
all_unknown false True = refl
all_unknown false False = refl
all_unknown false Unknown = refl

pub all_decided : (b : Bool) (r : Truth3) → and3 (if_known True b) (and3 False r) ≡ False
all_decided true r = refl
all_decided false r = refl

pub all_ends : (b : Bool) → and3 (if_known True b) True ≡ if_known True b
all_ends true = refl
all_ends false = refl

-- one that folds
pub some_folds : {A : Type 0} (f : A → Bool) (xs : List A) (i : ℕ) (x : A) → i < length xs → x ≡ get_or xs i x → f x ≡ true → list_any (λ b. b) (map f xs) ≡ true
some_folds f [] i x lt is e = absurd (omega arith)
some_folds f (y ∷ ys) zero x lt is e = go (f y) (ap f (sym is) ∙ e)
  where
    go : (b : Bool) → b ≡ true → (b || list_any (λ c. c) (map f ys)) ≡ true
    go true h = refl
    go false h = cc
some_folds f (y ∷ ys) (suc i) x lt is e = go (f y) (some_folds f ys i x (omega arith) is e)
  where
    go : (b : Bool) → list_any (λ c. c) (map f ys) ≡ true → (b || list_any (λ c. c) (map f ys)) ≡ true
    go true h = refl
    go false h = h
