-- By the counts of each mark and rule, along whatever the grammar derives.
use Rattle.std.proofs.Common.{◌≡◌, ◌≢◌, inl, inr, ℕ, false, List, [], ◌∷◌, ◌++◌, length, Option, Some, None, Result, refl, sym, subst, arith}
use Rattle.std.specs.Option.{option_and_then}
use Rattle.sc_geom.specs.declared.point.Pt.{Pt}
use Rattle.sc_geom.specs.Shapes.{Shapes}
use Rattle.sc_grammar.specs.Grammar.{tok, non, act, Derives, done, token, mark, rule}
use Rattle.sc_grammar.specs.Classes.{In, Each}
use Rattle.sc_grammar.specs.declared.token.Class.{Class}
use Rattle.sc_grammar.specs.declared.token.Token.{Token}
use Rattle.sc_cqlgrammar.specs.declared.rule.Rule.{Rule}
use Rattle.sc_cqlgrammar.specs.declared.rule.Rule.TheVariants as rules
use Rattle.sc_cqlgrammar.specs.declared.mark.Mark.{Mark}
use Rattle.sc_cqlgrammar.specs.declared.mark.Mark.TheVariants as marks
use Rattle.sc_cqlgrammar.specs.Rules.{Items, alternatives, IsAlternative}
use Rattle.sc_cqlgrammar.specs.Reading.{class_of}
use Rattle.sc_expr.specs.declared.scalar.Scalar.{Scalar}
use Rattle.sc_expr.specs.declared.scalar.Shape.{Shape}
use Rattle.sc_expr.specs.declared.expr.Expr.{Expr}
use Rattle.sc_cqlvalue.specs.declared.state.State.{State}
use Rattle.sc_cqlvalue.specs.Values as values
use Rattle.sc_cqlvalue.specs.Whole.{Drawn, Counted, eats_counted, does_counted, Leave, IsLeft}
use Rattle.sc_cqlvalue.proofs.Standing.{one, Standing, stand, moves, gives, run, fit}
use Rattle.sc_cqlvalue.proofs.Leaving.{Stands, with_geometry, so, none_some, does_stands, eats_stands}

one_of : (P : Items → Type 0) (xs : List Items) (x : Items) → In x xs → Each P xs → P x
one_of P [] x i each = absurd i
one_of P (y ∷ ys) x (inl is) each = subst P (sym is) each.0
one_of P (y ∷ ys) x (inr i) each = one_of P ys x i each.1

through : (o : Option Standing) (next : Standing → Option Standing) (k : Standing) (Q : Type 0) → option_and_then next o ≡ Some k → ((q : Standing) → o ≡ Some q → next q ≡ Some k → Q) → Q
through None next k Q e goes = absurd (none_some k e)
through (Some q) next k Q e goes = goes q refl e

-- items behind others
runs_on : (a is : Items) (h k r : Standing) → run a h ≡ Some k → run is k ≡ Some r → run (a ++ is) h ≡ Some r
runs_on [] is h k r e f = let same : h ≡ k = cc in subst (λ (x : Standing). run is x ≡ Some r) (sym same) f
runs_on (tok c ∷ a) is h k r e f = runs_on a is h k r e f
runs_on (act m ∷ a) is h k r e f =
    through (moves m h) (run a) k (option_and_then (run (a ++ is)) (moves m h) ≡ Some r) e
    (λ q to rest. subst (λ (o : Option Standing). option_and_then (run (a ++ is)) o ≡ Some r) (sym to) (runs_on a is q k r rest f))
runs_on (non n ∷ a) is h k r e f =
    through (gives n h) (run a) k (option_and_then (run (a ++ is)) (gives n h) ≡ Some r) e
    (λ q to rest. subst (λ (o : Option Standing). option_and_then (run (a ++ is)) o ≡ Some r) (sym to) (runs_on a is q k r rest f))

start_stands : Stands (stand [] [] [] [] false false) values.start
start_stands = record { scalars = refl; shapes = refl; exprs = record { counted = refl; none_open = refl }; listed = λ e. cc; pattern = λ e. cc }

no_scalars : (xs : List Scalar) → length xs ≡ 0 → xs ≡ []
no_scalars [] e = refl
no_scalars (x ∷ xs) e = absurd (omega arith)

no_shapes : (xs : List Shape) → length xs ≡ 0 → xs ≡ []
no_shapes [] e = refl
no_shapes (x ∷ xs) e = absurd (omega arith)

only_one : (xs : List Expr) → length xs ≡ 1 → (x : Expr) × (xs ≡ x ∷ [])
only_one [] e = absurd (omega arith)
only_one (x ∷ []) e = (x, refl)
only_one (x ∷ y ∷ xs) e = absurd (omega arith)

left_by : (s : State) → Stands (stand [] (one ∷ []) [] [] false false) s → (expr : Expr) × IsLeft expr s
left_by s w =
    let last = only_one s.exprs w.exprs.counted in
    (last.0, record { exprs = last.1; scalars = no_scalars s.scalars w.scalars; shapes = no_shapes s.shapes w.shapes; chains = w.exprs.none_open })

-- a state that has what was read of a filter as a part
module _ (S : Type 0) (eats : Token → S → S) (does : Mark → S → S) (text : List ℕ) (read : S → State)
    (eaten : (t : Token) (s : S) → read (eats t s) ≡ values.eats t (read s))
    (marked : (m : Mark) (s : S) → m ≢ marks.Geometry → read (does m s) ≡ values.does text m (read s))
    (drawn : (s : S) → (d : Result (Shapes Pt) ℕ) × (read (does marks.Geometry s) ≡ values.with_geometry d (read s))) where
  abbrev pub Left : Items → S → List Token → S → Type 0
  Left = Derives Token Class Rule Mark S class_of eats does IsAlternative

  acts : (m : Mark) (h k : Standing) (s : S) → moves m h ≡ Some k → Stands h (read s) → Stands k (read (does m s))
  acts marks.Geometry (stand rs es ss cs l p) k s e w =
      subst (Stands k) (sym (drawn s).1) (so _ k (values.with_geometry (drawn s).0 (read s)) e (with_geometry rs es ss cs l p (read s) (drawn s).0 w))
  acts m h k s e w = let other : m ≢ marks.Geometry = λ is. cc in subst (Stands k) (sym (marked m s other)) (does_stands text m h k (read s) other e w)

  leaves : (is : Items) (s : S) (ts : List Token) (s' : S) → Left is s ts s' → (h k : Standing) → run is h ≡ Some k → Stands h (read s) → Stands k (read s')
  leaves _ _ _ _ (done s) h k e w = so h k (read s) e w
  leaves _ _ _ _ (token t is s ts s' l) h k e w = leaves is (eats t s) ts s' l h k e (subst (Stands h) (sym (eaten t s)) (eats_stands t h (read s) w))
  leaves _ _ _ _ (mark m is s ts s' l) h k e w =
      through (moves m h) (run is) k (Stands k (read s')) e (λ q to rest. leaves is (does m s) ts s' l q k rest (acts m h q s to w))
  leaves _ _ _ _ (rule n a is s ts s' i l) h k e w =
      through (gives n h) (run is) k (Stands k (read s')) e
      (λ q to rest. leaves (a ++ is) s ts s' l h k (runs_on a is h q k (one_of (λ (x : Items). run x h ≡ Some q) (alternatives n) a i (fit n h q to)) rest) w)

  -- a whole text leaves one expression
  pub one_left : (s : S) (ts : List Token) (s' : S) → read s ≡ values.start → Left (non rules.Whole ∷ []) s ts s' → (expr : Expr) × IsLeft expr (read s')
  one_left s ts s' is l =
      left_by (read s') (leaves (non rules.Whole ∷ []) s ts s' l (stand [] [] [] [] false false) (stand [] (one ∷ []) [] [] false false) refl
      (subst (Stands (stand [] [] [] [] false false)) (sym is) start_stands))

pub whole_leaves : (drawn : Drawn) (text : List ℕ) (ts : List Token) (s : State) → Leave drawn text ts s → (expr : Expr) × IsLeft expr s
whole_leaves drawn text ts s l =
    one_left Counted eats_counted (does_counted drawn text) text (λ (c : Counted). c.0) (λ t c. refl) marked (λ c. (drawn c.1, refl)) (values.start, 0) ts (s, l.0) refl l.1
  where
    marked : (m : Mark) (c : Counted) → m ≢ marks.Geometry → (does_counted drawn text m c).0 ≡ values.does text m c.0
    marked marks.Geometry c other = absurd (other refl)
    marked m c other = refl
