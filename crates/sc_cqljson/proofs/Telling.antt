-- What is told of a value within another is told of that one, behind what stands before it.
use Rattle.std.proofs.Common.{◌≡◌, ℕ, ◌+◌, List, [], ◌∷◌, ◌++◌, length, get_or, map, refl, sym, ap, subst, ◌∙◌, arith}
use Rattle.std.proofs.lemmas.List.Sums.{sum_by-cons}
use Rattle.sc_json.specs.declared.tree.Json.{Json}
use Rattle.sc_expr.specs.declared.fault.CqlFault.{CqlFault}
use Rattle.sc_expr.specs.declared.fault.CqlFault.TheVariants.{Syntax, TooDeep, TooManyNodes, BadLiteral, OutOfMemory}
use Rattle.sc_expr.specs.Filter.{in_bits}
use Rattle.sc_json.specs.Views.{values}
use Rattle.sc_cqljson.specs.Operators.{Role}
use Rattle.sc_cqljson.specs.Forms.{Unfitness, misplaced, unreadable, within, form_of}
use Rattle.sc_cqljson.specs.Unfit.{Fits, Unfit, UnfitAmong, here, later, inner}
use Rattle.sc_cqljson.specs.Told.{Tells, Later, behind, number_behind}

later_capped : (result at number count c : ℕ) → result ≡ in_bits 64 (at + c) → at ≡ in_bits 64 number → c ≡ in_bits 64 count → result ≡ in_bits 64 (count + number)
later_capped result at number count c r a b = omega arith

module _ (P Q : ℕ → Unfitness → Type 0) where
  pub told_as : (f : CqlFault) → ((number : ℕ) (how : Unfitness) → P number how → Q number how) → Tells P f → Tells Q f
  told_as (Syntax at) as' t = (t.0, t.1, as' t.0 misplaced t.2)
  told_as (BadLiteral at) as' t = (t.0, t.1, as' t.0 unreadable t.2)
  told_as TooDeep as' t = t
  told_as TooManyNodes as' t = t
  told_as OutOfMemory as' t = tt

module _ (P : ℕ → Unfitness → Type 0) where
  pub told_later : (f : CqlFault) (count c : ℕ) → c ≡ in_bits 64 count → Tells P f → Tells (Later count P) (behind c f)
  told_later (Syntax at) count c e t = (count + t.0, later_capped (in_bits 64 (at + c)) at t.0 count c refl t.1 e, (t.0, refl, t.2))
  told_later (BadLiteral at) count c e t = (count + t.0, later_capped (in_bits 64 (at + c)) at t.0 count c refl t.1 e, (t.0, refl, t.2))
  told_later TooDeep count c e t = t
  told_later TooManyNodes count c e t = t
  told_later OutOfMemory count c e t = tt

pub told_behind : (role : Role) (arg : Json) (before : List Json) (f g : CqlFault) (count : ℕ) → g ≡ behind count f → count ≡ in_bits 64 (number_behind before) → Tells (Unfit role arg) f →
    Tells (Later (number_behind before) (Unfit role arg)) g
told_behind role arg before f g count e n t = subst (Tells (Later (number_behind before) (Unfit role arg))) (sym e) (told_later (Unfit role arg) f (number_behind before) count n t)

-- ---- among values

abbrev pub AllFit : List Role → List Json → Type 0
AllFit [] [] = Unit {0}
AllFit (r ∷ rs) (t ∷ ts) = Fits r t × AllFit rs ts
AllFit _ _ = ⊥

number_front : (at : ℕ) → 1 + at ≡ number_behind [] + at
number_front at = refl

number_more : (tree : Json) (before : List Json) (at : ℕ) → values tree + (number_behind before + at) ≡ number_behind (tree ∷ before) + at
number_more tree before at = omega (arith, sum_by-cons (λ n. n) (values tree) (map values before))

pub among_behind : (rs qs : List Role) (before after : List Json) (r : Role) (a : Json) (at : ℕ) (how : Unfitness) → AllFit rs before → Unfit r a at how →
    UnfitAmong (rs ++ r ∷ qs) (before ++ a ∷ after) (number_behind before + at) how
among_behind [] qs [] after r a at how all u = subst (λ (n : ℕ). UnfitAmong (r ∷ qs) (a ∷ after) n how) (number_front at) (here r qs a after at how u)
among_behind [] qs (t ∷ before) after r a at how all u = absurd all
among_behind (q ∷ rs) qs [] after r a at how all u = absurd all
among_behind (q ∷ rs) qs (t ∷ before) after r a at how all u =
    subst (λ (n : ℕ). UnfitAmong (q ∷ (rs ++ r ∷ qs)) (t ∷ (before ++ a ∷ after)) n how) (number_more t before at)
    (later q (rs ++ r ∷ qs) t (before ++ a ∷ after) (number_behind before + at) how all.0 (among_behind rs qs before after r a at how all.1 u))

pub told_among : (rs qs : List Role) (before after : List Json) (r : Role) (a : Json) (f : CqlFault) → AllFit rs before → Tells (Later (number_behind before) (Unfit r a)) f →
    Tells (UnfitAmong (rs ++ r ∷ qs) (before ++ a ∷ after)) f
told_among rs qs before after r a f all =
    told_as (Later (number_behind before) (Unfit r a)) (UnfitAmong (rs ++ r ∷ qs) (before ++ a ∷ after)) f
    (λ number how l. subst (λ (n : ℕ). UnfitAmong (rs ++ r ∷ qs) (before ++ a ∷ after) n how) (sym l.1) (among_behind rs qs before after r a l.0 how all l.2))

-- ---- within an object or a list

pub told_within : (role : Role) (tree : Json) (roles : List Role) (args : List Json) (place : ℕ) (f : CqlFault) → form_of role tree ≡ within roles args place →
    Tells (Later place (UnfitAmong roles args)) f → Tells (Unfit role tree) f
told_within role tree roles args place f e =
    told_as (Later place (UnfitAmong roles args)) (Unfit role tree) f
    (λ number how l. subst (λ (n : ℕ). Unfit role tree n how) (sym l.1) (inner role tree roles args place l.0 how e l.2))

-- ---- one, two or three arguments

module _ (args : List Json) (before : List Json) (f : CqlFault) where
  abbrev Told : Role → Json → Type 0
  Told r a = Tells (Later (number_behind before) (Unfit r a)) f

  pub at_front : (r : Role) (qs : List Role) (a : Json) (after : List Json) → before ≡ [] → args ≡ a ∷ after → Told r a → Tells (UnfitAmong (r ∷ qs) args) f
  at_front r qs a after b e t =
      subst (λ (xs : List Json). Tells (UnfitAmong (r ∷ qs) xs) f) (sym e)
      (told_among [] qs [] after r a f tt (subst (λ (xs : List Json). Tells (Later (number_behind xs) (Unfit r a)) f) b t))

  pub at_second : (q r : Role) (qs : List Role) (a b : Json) (after : List Json) → before ≡ a ∷ [] → args ≡ a ∷ b ∷ after → Fits q a → Told r b → Tells (UnfitAmong (q ∷ r ∷ qs) args) f
  at_second q r qs a b after is e fit t =
      subst (λ (xs : List Json). Tells (UnfitAmong (q ∷ r ∷ qs) xs) f) (sym e)
      (told_among (q ∷ []) qs (a ∷ []) after r b f (fit, tt) (subst (λ (xs : List Json). Tells (Later (number_behind xs) (Unfit r b)) f) is t))

  pub at_third : (p q r : Role) (qs : List Role) (a b d : Json) (after : List Json) → before ≡ a ∷ b ∷ [] → args ≡ a ∷ b ∷ d ∷ after → Fits p a → Fits q b → Told r d → Tells (UnfitAmong (p ∷ q ∷ r ∷ qs) args) f
  at_third p q r qs a b d after is e fit fit' t =
      subst (λ (xs : List Json). Tells (UnfitAmong (p ∷ q ∷ r ∷ qs) xs) f) (sym e)
      (told_among (p ∷ q ∷ []) qs (a ∷ b ∷ []) after r d f (fit, (fit', tt)) (subst (λ (xs : List Json). Tells (Later (number_behind xs) (Unfit r d)) f) is t))

-- a list by its elements
pub one_of : {A : Type 0} (xs : List A) (a : A) → length xs ≡ 1 → a ≡ get_or xs 0 a → xs ≡ a ∷ []
one_of [] a n e = absurd (omega arith)
one_of (x ∷ []) a n e = ap (λ y. y ∷ []) (sym e)
one_of (x ∷ y ∷ xs) a n e = absurd (omega arith)

pub two_of : {A : Type 0} (xs : List A) (a b : A) → length xs ≡ 2 → a ≡ get_or xs 0 a → b ≡ get_or xs 1 b → xs ≡ a ∷ b ∷ []
two_of [] a b n e f = absurd (omega arith)
two_of (x ∷ []) a b n e f = absurd (omega arith)
two_of (x ∷ y ∷ []) a b n e f = ap (λ z. z ∷ y ∷ []) (sym e) ∙ ap (λ z. a ∷ z ∷ []) (sym f)
two_of (x ∷ y ∷ z ∷ xs) a b n e f = absurd (omega arith)

pub three_of : {A : Type 0} (xs : List A) (a b d : A) → length xs ≡ 3 → a ≡ get_or xs 0 a → b ≡ get_or xs 1 b → d ≡ get_or xs 2 d → xs ≡ a ∷ b ∷ d ∷ []
three_of [] a b d n e f g = absurd (omega arith)
three_of (x ∷ []) a b d n e f g = absurd (omega arith)
three_of (x ∷ y ∷ []) a b d n e f g = absurd (omega arith)
three_of (x ∷ y ∷ z ∷ []) a b d n e f g = ap (λ w. w ∷ y ∷ z ∷ []) (sym e) ∙ ap (λ w. a ∷ w ∷ z ∷ []) (sym f) ∙ ap (λ w. a ∷ b ∷ w ∷ []) (sym g)
three_of (x ∷ y ∷ z ∷ w ∷ xs) a b d n e f g = absurd (omega arith)
