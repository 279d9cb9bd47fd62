-- The texts and patterns of an expression, and whether one of them ends in a backslash.
use Rattle.std.proofs.Common.{◌≡◌, ℕ, suc, ◌+◌, ◌-◌, ◌<◌, ◌≤◌, List, [], ◌∷◌, ◌++◌, length, drop, get_or, Bool, true, false, ◌||◌, eqb, Some, sym, ap, ◌∙◌, subst, arith}
use Rattle.std.specs.List.{list_any, flat_map, slice_get}
use Rattle.std.proofs.lemmas.List.{drop_all}
use Rattle.sc_cqlwrite.proofs.Spellings.{next_part}
use Rattle.std.proofs.lemmas.List.Folds.{list_any-append, flat_map-map}
use Rattle.sc_expr.specs.declared.scalar.Scalar.{Scalar}
use Rattle.sc_expr.specs.declared.expr.Expr.{Expr}
use Rattle.sc_expr.specs.declared.expr.Expr.TheVariants as exprs
use Rattle.sc_expr.specs.declared.expr.Expr.TheOpen as outer
use Rattle.sc_expr.specs.declared.expr.Expr.TheFolds.{fold-roll-Expr}
use Rattle.sc_cqlwrite.specs.Spellable.{ends_in_backslash, level, scalar_texts, texts_of}

-- the last byte of a text
pub last_ends : (text : List ℕ) (b : ℕ) → Some b ≡ slice_get text (length text - 1) → eqb b 92 ≡ ends_in_backslash text
last_ends [] b is = absurd cc
last_ends (a ∷ []) b is = let here : Some b ≡ Some a = is in let same : b ≡ a = cc in ap (λ n. eqb n 92) same
last_ends (a ∷ c ∷ bs) b is =
    let back : length (a ∷ c ∷ bs) - 1 ≡ suc (length (c ∷ bs) - 1) = omega arith in
    last_ends (c ∷ bs) b (subst (λ (n : ℕ). Some b ≡ slice_get (a ∷ c ∷ bs) n) back is)

pub any_append : (xs ys : List (List ℕ)) → list_any ends_in_backslash (xs ++ ys) ≡ (list_any ends_in_backslash xs || list_any ends_in_backslash ys)
any_append = list_any-append ends_in_backslash

pub and_texts : (members : List Expr) → texts_of (exprs.And members) ≡ flat_map texts_of members
and_texts members =
    ap texts_of (sym (exprs.rolls-And members)) ∙ fold-roll-Expr (List (List ℕ)) level (outer.And members)
    ∙ flat_map-map (λ (texts : List (List ℕ)). texts) texts_of members

pub or_texts : (members : List Expr) → texts_of (exprs.Or members) ≡ flat_map texts_of members
or_texts members =
    ap texts_of (sym (exprs.rolls-Or members)) ∙ fold-roll-Expr (List (List ℕ)) level (outer.Or members)
    ∙ flat_map-map (λ (texts : List (List ℕ)). texts) texts_of members

pub among_texts : (operand : Scalar) (scalars : List Scalar) → texts_of (exprs.Among operand scalars) ≡ scalar_texts operand ++ flat_map scalar_texts scalars
among_texts operand scalars =
    ap texts_of (sym (exprs.rolls-Among operand scalars)) ∙ fold-roll-Expr (List (List ℕ)) level (outer.Among operand scalars)

-- ---- one text after the other

module _ {A : Type 0} (f : A → List (List ℕ)) (xs : List A) (i : ℕ) (x : A) (whole : Bool) where
  abbrev left_of : ℕ → Bool
  left_of n = list_any ends_in_backslash (flat_map f (drop n xs))

  next_any : i < length xs → x ≡ get_or xs i x → left_of i ≡ (list_any ends_in_backslash (f x) || left_of (i + 1))
  next_any lt is =
      ap (λ (ys : List A). list_any ends_in_backslash (flat_map f ys)) (next_part A xs i x lt is) ∙ any_append (f x) (flat_map f (drop (i + 1) xs))

  pub any_found : i < length xs → x ≡ get_or xs i x → list_any ends_in_backslash (f x) ≡ true → left_of i ≡ whole → true ≡ whole
  any_found lt is here kept = ap (λ (b : Bool). b || left_of (i + 1)) (sym here) ∙ sym (next_any lt is) ∙ kept

  pub any_goes_on : i < length xs → x ≡ get_or xs i x → list_any ends_in_backslash (f x) ≡ false → left_of i ≡ whole → left_of (i + 1) ≡ whole
  any_goes_on lt is here kept = ap (λ (b : Bool). b || left_of (i + 1)) (sym here) ∙ sym (next_any lt is) ∙ kept

pub none_found : {A : Type 0} (f : A → List (List ℕ)) (xs : List A) (i : ℕ) (whole : Bool) → length xs ≤ i → list_any ends_in_backslash (flat_map f (drop i xs)) ≡ whole → false ≡ whole
none_found {A} f xs i whole past kept = ap (λ (ys : List A). list_any ends_in_backslash (flat_map f ys)) (sym (drop_all i xs past)) ∙ kept
