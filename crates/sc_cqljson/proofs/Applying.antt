-- What an operator makes of its arguments, and what is told of one that doesn't fit.
use Rattle.std.proofs.Common.{◌≡◌, ℕ, zero, suc, ◌+◌, ◌≤◌, ◌<◌, true, List, [], ◌∷◌, ◌++◌, length, get_or, take, drop, map, refl, sym, ap, subst, ◌∙◌, arith}
use Rattle.std.specs.Prelude.{◌==◌, nat_le}
use Rattle.std.proofs.Common.{rules}
use Rattle.std.proofs.lemmas.Bool.Decides.{nat_tests}
use Rattle.std.proofs.lemmas.List.{take_more}
use Rattle.sc_json.specs.declared.tree.Json.{Json}
use Rattle.sc_expr.specs.declared.fault.CqlFault.{CqlFault}
use Rattle.sc_expr.specs.declared.expr.CompOp.{CompOp}
use Rattle.sc_expr.specs.declared.expr.Expr.{Expr}
use Rattle.sc_expr.specs.declared.expr.Expr.TheVariants as exprs
use Rattle.sc_expr.specs.declared.scalar.Scalar.{Scalar}
use Rattle.sc_expr.specs.declared.scalar.Pattern.{Pattern}
use Rattle.sc_expr.specs.declared.scalar.Shape.{Shape}
use Rattle.sc_cqljson.specs.declared.operator.Operator.{Operator}
use Rattle.sc_cqljson.specs.declared.operator.Operator.TheVariants.{And, Or, Not, Compare, IsNull, Between, In, Like, Intersects}
use Rattle.sc_cqljson.specs.Operators.{Role, expression, scalar, arguments, takes, roles_of}
use Rattle.sc_cqljson.specs.Spells.{SpellsScalar, SpellScalars, no_scalars, one_scalar, SpellsList, SpellsPattern, SpellsShape, Spells, SpellAll, none_left, one_more, Applied, conjunction, disjunction, negation, comparison, null, between, among, like, intersection}
use Rattle.sc_cqljson.specs.Unfit.{Fits, Unfit, UnfitAmong}
use Rattle.sc_cqljson.specs.Told.{Tells, Later, number_behind}
use Rattle.sc_cqljson.proofs.Telling.{AllFit, one_of, two_of, three_of, told_among, at_front, at_second, at_third}

-- ---- a list by what is known of its places

module _ (args before : List Json) (f : CqlFault) where
  abbrev Told : Role → Json → Type 0
  Told r a = Tells (Later (number_behind before) (Unfit r a)) f

  pub first_of_one : (r : Role) (a : Json) → length args ≡ 1 → a ≡ get_or args 0 a → before ≡ take 0 args → Told r a → Tells (UnfitAmong (r ∷ []) args) f
  first_of_one r a n e b t = at_front args before f r [] a [] b (one_of args a n e) t

  pub first_of_two : (r q : Role) (a : Json) → length args ≡ 2 → a ≡ get_or args 0 a → before ≡ take 0 args → Told r a → Tells (UnfitAmong (r ∷ q ∷ []) args) f
  first_of_two r q a n e b t = by args n e
    where
      by : (xs : List Json) → length xs ≡ 2 → a ≡ get_or xs 0 a → Tells (UnfitAmong (r ∷ q ∷ []) xs) f
      by [] n e = absurd (omega arith)
      by (x ∷ xs) n e = at_front (x ∷ xs) before f r (q ∷ []) a xs b (ap (λ y. y ∷ xs) (sym e)) t

  pub second_of_two : (r q : Role) (a d : Json) → length args ≡ 2 → a ≡ get_or args 0 a → d ≡ get_or args 1 d → before ≡ take 1 args → Fits r a → Told q d →
      Tells (UnfitAmong (r ∷ q ∷ []) args) f
  second_of_two r q a d n e g b fit t = let is = two_of args a d n e g in at_second args before f r q [] a d [] (b ∙ ap (take 1) is) is fit t

  pub first_of_three : (r q p : Role) (a : Json) → length args ≡ 3 → a ≡ get_or args 0 a → before ≡ take 0 args → Told r a → Tells (UnfitAmong (r ∷ q ∷ p ∷ []) args) f
  first_of_three r q p a n e b t = by args n e
    where
      by : (xs : List Json) → length xs ≡ 3 → a ≡ get_or xs 0 a → Tells (UnfitAmong (r ∷ q ∷ p ∷ []) xs) f
      by [] n e = absurd (omega arith)
      by (x ∷ xs) n e = at_front (x ∷ xs) before f r (q ∷ p ∷ []) a xs b (ap (λ y. y ∷ xs) (sym e)) t

  pub second_of_three : (r q p : Role) (a d : Json) → length args ≡ 3 → a ≡ get_or args 0 a → d ≡ get_or args 1 d → before ≡ take 1 args → Fits r a → Told q d →
      Tells (UnfitAmong (r ∷ q ∷ p ∷ []) args) f
  second_of_three r q p a d n e g b fit t = by args n e g b
    where
      by : (xs : List Json) → length xs ≡ 3 → a ≡ get_or xs 0 a → d ≡ get_or xs 1 d → before ≡ take 1 xs → Tells (UnfitAmong (r ∷ q ∷ p ∷ []) xs) f
      by [] n e g b = absurd (omega arith)
      by (x ∷ []) n e g b = absurd (omega arith)
      by (x ∷ y ∷ xs) n e g b =
          let is : (x ∷ y ∷ xs) ≡ a ∷ d ∷ xs = ap (λ z. z ∷ y ∷ xs) (sym e) ∙ ap (λ z. a ∷ z ∷ xs) (sym g) in
          at_second (x ∷ y ∷ xs) before f r q (p ∷ []) a d xs (b ∙ ap (λ z. z ∷ []) (sym e)) is fit t

  pub third_of_three : (r q p : Role) (a d h : Json) → length args ≡ 3 → a ≡ get_or args 0 a → d ≡ get_or args 1 d → h ≡ get_or args 2 h → before ≡ take 2 args → Fits r a → Fits q d → Told p h →
      Tells (UnfitAmong (r ∷ q ∷ p ∷ []) args) f
  third_of_three r q p a d h n e g k b fit fit' t = let is = three_of args a d h n e g k in at_third args before f r q p [] a d h [] (b ∙ ap (take 2) is) is fit fit' t

-- ---- what is made

applied_to : (o : Operator) (args xs : List Json) (e : Expr) → args ≡ xs → Applied o xs e → Applied o args e
applied_to o args xs e is a = subst (λ (ys : List Json). Applied o ys e) (sym is) a

pub compared : (op : CompOp) (args : List Json) (a b : Json) (x y : Scalar) → length args ≡ 2 → a ≡ get_or args 0 a → b ≡ get_or args 1 b → SpellsScalar a x → SpellsScalar b y →
    Applied (Compare op) args (exprs.Compare op x y)
compared op args a b x y n e g s r = applied_to (Compare op) args (a ∷ b ∷ []) (exprs.Compare op x y) (two_of args a b n e g) (comparison op a b x y s r)

pub nulled : (args : List Json) (a : Json) (x : Scalar) → length args ≡ 1 → a ≡ get_or args 0 a → SpellsScalar a x → Applied IsNull args (exprs.IsNull x)
nulled args a x n e s = applied_to IsNull args (a ∷ []) (exprs.IsNull x) (one_of args a n e) (null a x s)

pub ranged : (args : List Json) (a b d : Json) (x y z : Scalar) → length args ≡ 3 → a ≡ get_or args 0 a → b ≡ get_or args 1 b → d ≡ get_or args 2 d → SpellsScalar a x → SpellsScalar b y → SpellsScalar d z →
    Applied Between args (exprs.Between x y z)
ranged args a b d x y z n e g h s r q = applied_to Between args (a ∷ b ∷ d ∷ []) (exprs.Between x y z) (three_of args a b d n e g h) (between a b d x y z s r q)

pub looked_through : (args : List Json) (a b : Json) (x : Scalar) (xs : List Scalar) → length args ≡ 2 → a ≡ get_or args 0 a → b ≡ get_or args 1 b → SpellsScalar a x → SpellsList b xs →
    Applied In args (exprs.Among x xs)
looked_through args a b x xs n e g s r = applied_to In args (a ∷ b ∷ []) (exprs.Among x xs) (two_of args a b n e g) (among a b x xs s r)

pub matched : (args : List Json) (a b : Json) (x : Scalar) (p : Pattern) → length args ≡ 2 → a ≡ get_or args 0 a → b ≡ get_or args 1 b → SpellsScalar a x → SpellsPattern b p →
    Applied Like args (exprs.Like x p)
matched args a b x p n e g s r = applied_to Like args (a ∷ b ∷ []) (exprs.Like x p) (two_of args a b n e g) (like a b x p s r)

pub intersected : (args : List Json) (a b : Json) (x y : Shape) → length args ≡ 2 → a ≡ get_or args 0 a → b ≡ get_or args 1 b → SpellsShape a x → SpellsShape b y →
    Applied Intersects args (exprs.Meets x y)
intersected args a b x y n e g s r = applied_to Intersects args (a ∷ b ∷ []) (exprs.Meets x y) (two_of args a b n e g) (intersection a b x y s r)

pub negated : (args : List Json) (a : Json) (x : Expr) → length args ≡ 1 → a ≡ get_or args 0 a → Spells a x → Applied Not args (exprs.Not x)
negated args a x n e s = applied_to Not args (a ∷ []) (exprs.Not x) (one_of args a n e) (negation a x s)

-- ---- lists, one after another

pub scalars_push : (ts : List Json) (ss : List Scalar) (t : Json) (s : Scalar) → SpellScalars ts ss → SpellsScalar t s → SpellScalars (ts ++ t ∷ []) (ss ++ s ∷ [])
scalars_push _ _ t s no_scalars d = one_scalar t [] s [] d no_scalars
scalars_push _ _ t s (one_scalar tree trees x xs h all) d = one_scalar tree (trees ++ t ∷ []) x (xs ++ s ∷ []) h (scalars_push trees xs t s all d)

pub members_push : (ts : List Json) (es : List Expr) (t : Json) (e : Expr) → SpellAll ts es → Spells t e → SpellAll (ts ++ t ∷ []) (es ++ e ∷ [])
members_push _ _ t e none_left d = one_more t [] e [] d none_left
members_push _ _ t e (one_more tree trees x xs h all) d = one_more tree (trees ++ t ∷ []) x (xs ++ e ∷ []) h (members_push trees xs t e all d)

scalars_fit_all : (ts : List Json) (ss : List Scalar) → SpellScalars ts ss → AllFit (map (λ _. scalar) ts) ts
scalars_fit_all _ _ no_scalars = tt
scalars_fit_all _ _ (one_scalar tree trees s ss d all) = ((s, d), scalars_fit_all trees ss all)

members_fit_all : (ts : List Json) (es : List Expr) → SpellAll ts es → AllFit (map (λ _. expression) ts) ts
members_fit_all _ _ none_left = tt
members_fit_all _ _ (one_more tree trees e es d all) = ((e, d), members_fit_all trees es all)

parted : (xs : List Json) (i : ℕ) (x : Json) → i < length xs → x ≡ get_or xs i x → xs ≡ take i xs ++ x ∷ drop (suc i) xs
parted [] i x lt e = absurd (omega arith)
parted (y ∷ xs) zero x lt e = ap (λ z. z ∷ xs) (sym e)
parted (y ∷ xs) (suc i) x lt e = ap (λ zs. y ∷ zs) (parted xs i x (omega arith) e)

roles_parted : (r : Role) (ts : List Json) (t : Json) (us : List Json) → map (λ _. r) (ts ++ t ∷ us) ≡ map (λ _. r) ts ++ r ∷ map (λ _. r) us
roles_parted r [] t us = refl
roles_parted r (x ∷ ts) t us = ap (λ (rs : List Role). r ∷ rs) (roles_parted r ts t us)

-- an element that doesn't fit, behind those that do
told_each : (r : Role) (xs : List Json) (i : ℕ) (x : Json) (f : CqlFault) → i < length xs → x ≡ get_or xs i x → AllFit (map (λ _. r) (take i xs)) (take i xs) →
    Tells (Later (number_behind (take i xs)) (Unfit r x)) f → Tells (UnfitAmong (map (λ _. r) xs) xs) f
told_each r xs i x f lt e fit t =
    let ts = take i xs in
    let us = drop (suc i) xs in
    let is : xs ≡ ts ++ x ∷ us = parted xs i x lt e in
    let told : Tells (UnfitAmong (map (λ _. r) (ts ++ x ∷ us)) (ts ++ x ∷ us)) f =
    subst (λ (rs : List Role). Tells (UnfitAmong rs (ts ++ x ∷ us)) f) (sym (roles_parted r ts x us)) (told_among (map (λ _. r) ts) (map (λ _. r) us) ts us r x f fit t) in
    subst (λ (ys : List Json). Tells (UnfitAmong (map (λ _. r) ys) ys) f) (sym is) told

pub told_scalar : (xs : List Json) (i : ℕ) (x : Json) (ss : List Scalar) (f : CqlFault) → i < length xs → x ≡ get_or xs i x → SpellScalars (take i xs) ss →
    Tells (Later (number_behind (take i xs)) (Unfit scalar x)) f → Tells (UnfitAmong (map (λ _. scalar) xs) xs) f
told_scalar xs i x ss f lt e all = told_each scalar xs i x f lt e (scalars_fit_all (take i xs) ss all)

pub told_member : (xs : List Json) (i : ℕ) (x : Json) (es : List Expr) (f : CqlFault) → i < length xs → x ≡ get_or xs i x → SpellAll (take i xs) es →
    Tells (Later (number_behind (take i xs)) (Unfit expression x)) f → Tells (UnfitAmong (map (λ _. expression) xs) xs) f
told_member xs i x es f lt e all = told_each expression xs i x f lt e (members_fit_all (take i xs) es all)

-- ---- loops

grown : {A : Type 0} (xs : List A) (i : ℕ) (x : A) → i < length xs → x ≡ get_or xs i x → take (i + 1) xs ≡ take i xs ++ x ∷ []
grown xs i x lt is = take_more xs i x lt ∙ ap (λ y. take i xs ++ y ∷ []) (sym is)

pub scalars_grow : (xs : List Json) (i : ℕ) (x : Json) (ss new : List Scalar) (s : Scalar) → i < length xs → x ≡ get_or xs i x → SpellScalars (take i xs) ss → SpellsScalar x s → new ≡ ss ++ s ∷ [] →
    SpellScalars (take (i + 1) xs) new
scalars_grow xs i x ss new s lt is all d e =
    subst (SpellScalars (take (i + 1) xs)) (sym e)
    (subst (λ (ts : List Json). SpellScalars ts (ss ++ s ∷ [])) (sym (grown xs i x lt is)) (scalars_push (take i xs) ss x s all d))

pub members_grow : (xs : List Json) (i : ℕ) (x : Json) (es new : List Expr) (e : Expr) → i < length xs → x ≡ get_or xs i x → SpellAll (take i xs) es → Spells x e → new ≡ es ++ e ∷ [] →
    SpellAll (take (i + 1) xs) new
members_grow xs i x es new e lt is all d n =
    subst (SpellAll (take (i + 1) xs)) (sym n)
    (subst (λ (ts : List Json). SpellAll ts (es ++ e ∷ [])) (sym (grown xs i x lt is)) (members_push (take i xs) es x e all d))

pub members_length : (ts : List Json) (es : List Expr) → SpellAll ts es → length es ≡ length ts
members_length _ _ none_left = refl
members_length _ _ (one_more tree trees e es d all) = ap suc (members_length trees es all)

pub scalars_length : (ts : List Json) (ss : List Scalar) → SpellScalars ts ss → length ss ≡ length ts
scalars_length _ _ no_scalars = refl
scalars_length _ _ (one_scalar tree trees s ss d all) = ap suc (scalars_length trees ss all)

-- ---- by the operator

two_or_more : (n : ℕ) → nat_le 2 n ≡ true → 2 ≤ n
two_or_more n e = grind (arith, nat_tests)

one_alone : (n : ℕ) → (n == 1) ≡ true → n ≡ 1
one_alone n e = first_of (grind (arith, nat_tests), search rules)

pub and_count : (o : Operator) (n : ℕ) → o ≡ And → takes o n ≡ true → 2 ≤ n
and_count o n e t = two_or_more n (sym (ap (λ (p : Operator). takes p n) e) ∙ t)

pub or_count : (o : Operator) (n : ℕ) → o ≡ Or → takes o n ≡ true → 2 ≤ n
or_count o n e t = two_or_more n (sym (ap (λ (p : Operator). takes p n) e) ∙ t)

pub not_count : (o : Operator) (n : ℕ) → o ≡ Not → takes o n ≡ true → n ≡ 1
not_count o n e t = one_alone n (sym (ap (λ (p : Operator). takes p n) e) ∙ t)

pub and_applied : (o : Operator) (args : List Json) (ms es : List Expr) → o ≡ And → takes o (length args) ≡ true → ms ≡ es → SpellAll args es → Applied o args (exprs.And ms)
and_applied o args ms es e t m all =
    subst (λ (p : Operator). Applied p args (exprs.And ms)) (sym e) (subst (λ (xs : List Expr). Applied And args (exprs.And xs)) (sym m) (conjunction args es (and_count o (length args) e t) all))

pub or_applied : (o : Operator) (args : List Json) (ms es : List Expr) → o ≡ Or → takes o (length args) ≡ true → ms ≡ es → SpellAll args es → Applied o args (exprs.Or ms)
or_applied o args ms es e t m all =
    subst (λ (p : Operator). Applied p args (exprs.Or ms)) (sym e) (subst (λ (xs : List Expr). Applied Or args (exprs.Or xs)) (sym m) (disjunction args es (or_count o (length args) e t) all))

pub not_applied : (o : Operator) (args : List Json) (a : Json) (x y : Expr) → o ≡ Not → takes o (length args) ≡ true → a ≡ get_or args 0 a → y ≡ x → Spells a x → Applied o args (exprs.Not y)
not_applied o args a x y e t is same d =
    subst (λ (p : Operator). Applied p args (exprs.Not y)) (sym e) (subst (λ (z : Expr). Applied Not args (exprs.Not z)) (sym same) (negated args a x (not_count o (length args) e t) is d))

pub not_told : (o : Operator) (args : List Json) (a : Json) (f : CqlFault) → o ≡ Not → takes o (length args) ≡ true → a ≡ get_or args 0 a → Tells (Later (number_behind []) (Unfit expression a)) f →
    Tells (UnfitAmong (roles_of (arguments expression o) args) args) f
not_told o args a f e t is told =
    subst (λ (p : Operator). Tells (UnfitAmong (roles_of (arguments expression p) args) args) f) (sym e) (first_of_one args [] f expression a (not_count o (length args) e t) is refl told)
