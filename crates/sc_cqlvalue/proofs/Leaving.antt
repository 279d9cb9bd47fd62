-- What stands ready is as much as the marks count: so what derives from a filter leaves one expression, and nothing else.
use Rattle.std.proofs.Common.{◌≡◌, ◌≢◌, ℕ, ◌-◌, ◌≤◌, leb, Bool, true, false, cond, List, [], ◌∷◌, ◌++◌, length, take, drop, reverse, Option, Some, None, is_some, Result, Ok, Err, refl, sym, ap, subst, ◌∙◌, append_assoc, arith}
use Rattle.std.proofs.lemmas.Bool.{leb-false}
use Rattle.std.proofs.lemmas.List.{length-append}
use Rattle.std.proofs.Math.Seq.{drop-append_seam}
use Rattle.sc_geom.specs.declared.point.Pt.{Pt}
use Rattle.sc_geom.specs.Shapes.{Shapes}
use Rattle.sc_grammar.specs.declared.token.Token.{Token}
use Rattle.sc_decimal.specs.Number.{Number}
use Rattle.sc_cqlgrammar.specs.declared.mark.Mark.{Mark}
use Rattle.sc_cqlgrammar.specs.declared.mark.Mark.TheVariants as marks
use Rattle.sc_expr.specs.declared.scalar.Scalar.{Scalar}
use Rattle.sc_expr.specs.declared.scalar.Scalar.TheVariants as scalars
use Rattle.sc_expr.specs.declared.scalar.Shape.{Shape}
use Rattle.sc_expr.specs.declared.scalar.Shape.TheVariants as shapes
use Rattle.sc_expr.specs.declared.scalar.Pattern.{Pattern}
use Rattle.sc_expr.specs.declared.expr.CompOp.{CompOp}
use Rattle.sc_expr.specs.declared.expr.CompOp.TheVariants as ops
use Rattle.sc_expr.specs.declared.expr.Expr.{Expr}
use Rattle.sc_expr.specs.declared.expr.Expr.TheVariants as exprs
use Rattle.sc_cqlvalue.specs.declared.state.State.{State}
use Rattle.sc_cqlvalue.specs.Literals.{bytes_of, dec_of}
use Rattle.sc_cqlvalue.specs.Values as values
use Rattle.sc_cqlvalue.proofs.Standing.{One, one, Count, Standing, stand, moves}

abbrev pub Chains : Type 0
Chains = List (Count × Bool)

-- ---- expressions and open chains

-- the last chain: the expressions that aren't linked, those that are, and those that stood before
pub record InChain (es before : Count) (some : Bool) (Below : List Expr → List ℕ → Type 0) (ready : List Expr) (chains : List ℕ) : Type 0 where
  pub loose : List Expr
  pub linked : List Expr
  pub below : List Expr
  pub others : List ℕ
  pub ready_is : ready ≡ loose ++ (linked ++ below)
  pub chains_are : chains ≡ length below ∷ others
  pub counted : length loose ≡ length es
  pub linked_some : some ≡ true → 1 ≤ length linked
  pub stand_below : Below below others

pub record Alone (es : Count) (ready : List Expr) (chains : List ℕ) : Type 0 where
  pub counted : length ready ≡ length es
  pub none_open : chains ≡ []

abbrev pub Chained : Count → Chains → List Expr → List ℕ → Type 0
Chained es [] ready chains = Alone es ready chains
Chained es ((before, some) ∷ cs) ready chains = InChain es before some (Chained before cs) ready chains

one_more : (es : Count) (cs : Chains) (x : Expr) (ready : List Expr) (chains : List ℕ) → Chained es cs ready chains → Chained (one ∷ es) cs (x ∷ ready) chains
one_more es [] x ready chains c = record { counted = omega (arith, c.counted); none_open = c.none_open }
one_more es ((before, some) ∷ cs) x ready chains c = record {
  loose = x ∷ c.loose;
  linked = c.linked;
  below = c.below;
  others = c.others;
  ready_is = ap (λ (xs : List Expr). x ∷ xs) c.ready_is;
  chains_are = c.chains_are;
  counted = omega (arith, c.counted);
  linked_some = c.linked_some;
  stand_below = c.stand_below;
}

-- another in place of the last one
replaced : (o : One) (es : Count) (cs : Chains) (x y : Expr) (ready : List Expr) (chains : List ℕ) → Chained (o ∷ es) cs (x ∷ ready) chains → Chained (o ∷ es) cs (y ∷ ready) chains
replaced o es [] x y ready chains c = record { counted = omega (arith, c.counted); none_open = c.none_open }
replaced o es ((before, some) ∷ cs) x y ready chains c = go c.loose c.counted c.ready_is
  where
    go : (loose : List Expr) → length loose ≡ length (o ∷ es) → x ∷ ready ≡ loose ++ (c.linked ++ c.below) → Chained (o ∷ es) ((before, some) ∷ cs) (y ∷ ready) chains
    go [] counted is = absurd (omega arith)
    go (z ∷ loose) counted is = record {
      loose = y ∷ loose;
      linked = c.linked;
      below = c.below;
      others = c.others;
      ready_is = let same : ready ≡ loose ++ (c.linked ++ c.below) = cc in ap (λ (xs : List Expr). y ∷ xs) same;
      chains_are = c.chains_are;
      counted = counted;
      linked_some = c.linked_some;
      stand_below = c.stand_below;
    }

-- there is a last one
has_last : (o : One) (es : Count) (cs : Chains) (ready : List Expr) (chains : List ℕ) → Chained (o ∷ es) cs ready chains → ready ≡ [] → ⊥
has_last o es [] ready chains c is = let n : length ready ≡ 0 = ap length is in omega (arith, c.counted, n)
has_last o es ((before, some) ∷ cs) ready chains c is =
    let n : 0 ≡ length (c.loose ++ (c.linked ++ c.below)) = ap length (sym is ∙ c.ready_is) in
    omega (arith, c.counted, n, length-append c.loose (c.linked ++ c.below))

linked_now : (o : One) (before : Count) (some : Bool) (cs : Chains) (ready : List Expr) (chains : List ℕ) → Chained (o ∷ []) ((before, some) ∷ cs) ready chains → Chained [] ((before, true) ∷ cs) ready chains
linked_now o before some cs ready chains c = record {
  loose = [];
  linked = c.loose ++ c.linked;
  below = c.below;
  others = c.others;
  ready_is = c.ready_is ∙ sym (append_assoc c.loose c.linked c.below);
  chains_are = c.chains_are;
  counted = refl;
  linked_some = λ e. omega (arith, c.counted, length-append c.loose c.linked);
  stand_below = c.stand_below;
}

-- the members of a chain as one
joined_when : (join : List Expr → Expr) (before : Count) (cs : Chains) (others : List ℕ) (below linked : List Expr) → 1 ≤ length linked → Chained before cs below others → (many : Bool) → leb 2 (length linked) ≡ many →
    Chained (one ∷ before) cs (cond many (join (reverse (take (length linked) (linked ++ below))) ∷ drop (length linked) (linked ++ below)) (linked ++ below)) others
joined_when join before cs others below linked some c true many =
    subst (λ (xs : List Expr). Chained (one ∷ before) cs (join (reverse (take (length linked) (linked ++ below))) ∷ xs) others) (sym (drop-append_seam linked below))
    (one_more before cs (join (reverse (take (length linked) (linked ++ below)))) below others c)
joined_when join before cs others below [] some c false few = absurd (omega arith)
joined_when join before cs others below (x ∷ []) some c false few = one_more before cs x below others c
joined_when join before cs others below (x ∷ y ∷ linked) some c false few = absurd (omega (arith, leb-false 2 (length (x ∷ y ∷ linked)) few))

ended : (join : List Expr → Expr) (before : Count) (cs : Chains) (ready : List Expr) (chains : List ℕ) → Chained [] ((before, true) ∷ cs) ready chains → Chained (one ∷ before) cs (values.joined join (values.chain_count chains ready) ready) (drop 1 chains)
ended join before cs ready chains c =
    let loose : c.loose ≡ [] = nothing c.loose c.counted in
    let is : ready ≡ c.linked ++ c.below = c.ready_is ∙ ap (λ (xs : List Expr). xs ++ (c.linked ++ c.below)) loose in
    subst (λ (xs : List Expr). Chained (one ∷ before) cs (values.joined join (values.chain_count chains xs) xs) (drop 1 chains)) (sym is)
    (subst (λ (ns : List ℕ). Chained (one ∷ before) cs (values.joined join (values.chain_count ns (c.linked ++ c.below)) (c.linked ++ c.below)) (drop 1 ns)) (sym c.chains_are)
    (subst (λ (n : ℕ). Chained (one ∷ before) cs (values.joined join n (c.linked ++ c.below)) c.others) count
    (joined_when join before cs c.others c.below c.linked (c.linked_some refl) c.stand_below (leb 2 (length c.linked)) refl)))
  where
    nothing : (xs : List Expr) → length xs ≡ 0 → xs ≡ []
    nothing [] e = refl
    nothing (x ∷ xs) e = absurd (omega arith)

    count : length c.linked ≡ length (c.linked ++ c.below) - length c.below
    count = omega (arith, length-append c.linked c.below)

-- ---- the whole state

pub record Stand (rs es ss : Count) (cs : Chains) (l p : Bool) (s : State) : Type 0 where
  pub scalars : length s.scalars ≡ length rs
  pub shapes : length s.shapes ≡ length ss
  pub exprs : Chained es cs s.exprs s.chains
  pub listed : l ≡ true → 1 ≤ length s.listed
  pub pattern : p ≡ true → is_some s.pattern ≡ true

abbrev pub Stands : Standing → State → Type 0
Stands (stand rs es ss cs l p) s = Stand rs es ss cs l p s

pub eats_stands : (token : Token) (h : Standing) (s : State) → Stands h s → Stands h (values.eats token s)
eats_stands token (stand rs es ss cs l p) s k = record { scalars = k.scalars; shapes = k.shapes; exprs = k.exprs; listed = k.listed; pattern = k.pattern }

module _ (rs es ss : Count) (cs : Chains) (l p : Bool) (s : State) where
  noted : (place : ℕ) → Stand rs es ss cs l p s → Stand rs es ss cs l p (values.noted place s)
  noted place k = record { scalars = k.scalars; shapes = k.shapes; exprs = k.exprs; listed = k.listed; pattern = k.pattern }

  with_scalar : (scalar : Scalar) → Stand rs es ss cs l p s → Stand (one ∷ rs) es ss cs l p (values.with_scalar scalar s)
  with_scalar scalar k = record { scalars = omega (arith, k.scalars); shapes = k.shapes; exprs = k.exprs; listed = k.listed; pattern = k.pattern }

  with_shape : (shape : Shape) → Stand rs es ss cs l p s → Stand rs es (one ∷ ss) cs l p (values.with_shape shape s)
  with_shape shape k = record { scalars = k.scalars; shapes = omega (arith, k.shapes); exprs = k.exprs; listed = k.listed; pattern = k.pattern }

  with_expr : (expr : Expr) → Stand rs es ss cs l p s → Stand rs (one ∷ es) ss cs l p (values.with_expr expr s)
  with_expr expr k = record { scalars = k.scalars; shapes = k.shapes; exprs = one_more es cs expr s.exprs s.chains k.exprs; listed = k.listed; pattern = k.pattern }

  -- the same with other scalars
  of_scalars : (more : Count) (ready : List Scalar) → length ready ≡ length more → Stand rs es ss cs l p s → Stand more es ss cs l p (record s { scalars = ready })
  of_scalars more ready counted k = record { scalars = counted; shapes = k.shapes; exprs = k.exprs; listed = k.listed; pattern = k.pattern }

module _ (rs es ss : Count) (cs : Chains) (l p : Bool) (s : State) where
  with_literal : (literal : Option Scalar) → Stand rs es ss cs l p s → Stand (one ∷ rs) es ss cs l p (values.with_literal literal s)
  with_literal (Some scalar) k = with_scalar rs es ss cs l p s scalar k
  with_literal None k = with_scalar rs es ss cs l p (values.noted s.token.from s) (scalars.Truth false) (noted rs es ss cs l p s s.token.from k)

  with_shape_at : (place : ℕ) (shape : Option Shape) → Stand rs es ss cs l p s → Stand rs es (one ∷ ss) cs l p (values.with_shape_at place shape s)
  with_shape_at place (Some shape) k = with_shape rs es ss cs l p s shape k
  with_shape_at place None k = with_shape rs es ss cs l p (values.noted place s) values.stand_in (noted rs es ss cs l p s place k)

  pub with_geometry : (drawn : Result (Shapes Pt) ℕ) → Stand rs es ss cs l p s → Stand rs es (one ∷ ss) cs l p (values.with_geometry drawn s)
  with_geometry (Ok geometry) k = with_shape rs es ss cs l p s (shapes.Geom geometry) k
  with_geometry (Err place) k = with_shape_at place None k

  box_when : (wide : Bool) → Stand rs es ss cs l p s → Stand rs es (one ∷ ss) cs l p (cond wide (values.with_shape values.stand_in s) (values.with_shape_at s.bbox.place (values.box_shape_of s.bbox.sides) s))
  box_when true k = with_shape rs es ss cs l p s values.stand_in k
  box_when false k = with_shape_at s.bbox.place (values.box_shape_of s.bbox.sides) k

  box_begun : Stand rs es ss cs l p s → Stand rs es ss cs l p (values.box_begun s)
  box_begun k = record { scalars = k.scalars; shapes = k.shapes; exprs = k.exprs; listed = k.listed; pattern = k.pattern }

  with_side : (side : Option Number) → Stand rs es ss cs l p s → Stand rs es ss cs l p (values.with_side side s)
  with_side None k = record { scalars = k.scalars; shapes = k.shapes; exprs = k.exprs; listed = k.listed; pattern = k.pattern }
  with_side (Some side) k = record { scalars = k.scalars; shapes = k.shapes; exprs = k.exprs; listed = k.listed; pattern = k.pattern }

  with_pattern : (text : Option (List ℕ)) → Stand rs es ss cs l p s → Stand rs es ss cs l true (values.with_pattern text s)
  with_pattern None k = record { scalars = k.scalars; shapes = k.shapes; exprs = k.exprs; listed = k.listed; pattern = λ e. refl }
  with_pattern (Some text) k = record { scalars = k.scalars; shapes = k.shapes; exprs = k.exprs; listed = k.listed; pattern = λ e. refl }

  pattern_folded : (pattern : Option Pattern) → is_some pattern ≡ true → Stand rs es ss cs l true s → Stand rs es ss cs l true (values.pattern_folded_from pattern s)
  pattern_folded None some k = cc
  pattern_folded (Some pattern) some k = record { scalars = k.scalars; shapes = k.shapes; exprs = k.exprs; listed = k.listed; pattern = λ e. refl }

  list_begun : Stand rs es ss cs l p s → Stand rs es ss cs false p (values.list_begun s)
  list_begun k = record { scalars = k.scalars; shapes = k.shapes; exprs = k.exprs; listed = λ e. cc; pattern = k.pattern }

  chain_begun : Stand rs es ss cs l p s → Stand rs [] ss ((es, false) ∷ cs) l p (values.chain_begun s)
  chain_begun k = record {
    scalars = k.scalars;
    shapes = k.shapes;
    exprs = record { loose = []; linked = []; below = s.exprs; others = s.chains; ready_is = refl; chains_are = refl; counted = refl; linked_some = λ e. cc; stand_below = k.exprs };
    listed = k.listed;
    pattern = k.pattern;
  }

  chain_ended : (join : List Expr → Expr) (before : Count) → Stand rs [] ss ((before, true) ∷ cs) l p s → Stand rs (one ∷ before) ss cs l p (values.chain_ended join s)
  chain_ended join before k = record { scalars = k.scalars; shapes = k.shapes; exprs = ended join before cs s.exprs s.chains k.exprs; listed = k.listed; pattern = k.pattern }

  chain_linked : (o : One) (before : Count) (some : Bool) → Stand rs (o ∷ []) ss ((before, some) ∷ cs) l p s → Stand rs [] ss ((before, true) ∷ cs) l p s
  chain_linked o before some k = record { scalars = k.scalars; shapes = k.shapes; exprs = linked_now o before some cs s.exprs s.chains k.exprs; listed = k.listed; pattern = k.pattern }

  negated : (o : One) (ready : List Expr) → s.exprs ≡ ready → Stand rs (o ∷ es) ss cs l p s → Stand rs (o ∷ es) ss cs l p (values.negated_from ready s)
  negated o [] is k = absurd (has_last o es cs s.exprs s.chains k.exprs is)
  negated o (expr ∷ others) is k = record {
    scalars = k.scalars;
    shapes = k.shapes;
    exprs = replaced o es cs expr (exprs.Not expr) others s.chains (subst (λ (xs : List Expr). Chained (o ∷ es) cs xs s.chains) is k.exprs);
    listed = k.listed;
    pattern = k.pattern;
  }

  folded : (o : One) (ready : List Scalar) → s.scalars ≡ ready → Stand (o ∷ rs) es ss cs l p s → Stand (o ∷ rs) es ss cs l p (values.folded_from ready s)
  folded o [] is k = k
  folded o (scalar ∷ others) is k = record { scalars = ap length (sym is) ∙ k.scalars; shapes = k.shapes; exprs = k.exprs; listed = k.listed; pattern = k.pattern }

  with_element : (o : One) (ready : List Scalar) → s.scalars ≡ ready → Stand (o ∷ rs) es ss cs l p s → Stand rs es ss cs true p (values.with_element_from ready s)
  with_element o [] is k = let n : length s.scalars ≡ 0 = ap length is in absurd (omega (arith, n, k.scalars))
  with_element o (element ∷ others) is k = record {
    scalars = let n : length s.scalars ≡ length (element ∷ others) = ap length is in omega (arith, n, k.scalars);
    shapes = k.shapes;
    exprs = k.exprs;
    listed = λ e. omega (arith, length-append s.listed (element ∷ []));
    pattern = k.pattern;
  }

  compared : (o q : One) (op : CompOp) (ready : List Scalar) → s.scalars ≡ ready → Stand (o ∷ q ∷ rs) es ss cs l p s → Stand rs (one ∷ es) ss cs l p (values.compared_from op ready s)
  compared o q op [] is k = let n : length s.scalars ≡ 0 = ap length is in absurd (omega (arith, n, k.scalars))
  compared o q op (right ∷ []) is k = let n : length s.scalars ≡ length (right ∷ []) = ap length is in absurd (omega (arith, n, k.scalars))
  compared o q op (right ∷ left ∷ others) is k =
      let n : length s.scalars ≡ length (right ∷ left ∷ others) = ap length is in
      with_expr rs es ss cs l p (record s { scalars = others }) (exprs.Compare op left right) (of_scalars (o ∷ q ∷ rs) es ss cs l p s rs others (omega (arith, n, k.scalars)) k)

  constant : (o : One) (ready : List Scalar) → s.scalars ≡ ready → Stand (o ∷ rs) es ss cs l p s → Stand rs (one ∷ es) ss cs l p (values.constant_from ready s)
  constant o [] is k = let n : length s.scalars ≡ 0 = ap length is in absurd (omega (arith, n, k.scalars))
  constant o (scalar ∷ others) is k =
      let n : length s.scalars ≡ length (scalar ∷ others) = ap length is in
      with_expr rs es ss cs l p (record s { scalars = others }) (exprs.Const (values.truth_of scalar)) (of_scalars (o ∷ rs) es ss cs l p s rs others (omega (arith, n, k.scalars)) k)

  tested_for_null : (o : One) (ready : List Scalar) → s.scalars ≡ ready → Stand (o ∷ rs) es ss cs l p s → Stand rs (one ∷ es) ss cs l p (values.tested_for_null_from ready s)
  tested_for_null o [] is k = let n : length s.scalars ≡ 0 = ap length is in absurd (omega (arith, n, k.scalars))
  tested_for_null o (operand ∷ others) is k =
      let n : length s.scalars ≡ length (operand ∷ others) = ap length is in
      with_expr rs es ss cs l p (record s { scalars = others }) (exprs.IsNull operand) (of_scalars (o ∷ rs) es ss cs l p s rs others (omega (arith, n, k.scalars)) k)

  placed_between : (o q r : One) (ready : List Scalar) → s.scalars ≡ ready → Stand (o ∷ q ∷ r ∷ rs) es ss cs l p s → Stand rs (one ∷ es) ss cs l p (values.placed_between_from ready s)
  placed_between o q r [] is k = let n : length s.scalars ≡ 0 = ap length is in absurd (omega (arith, n, k.scalars))
  placed_between o q r (high ∷ []) is k = let n : length s.scalars ≡ length (high ∷ []) = ap length is in absurd (omega (arith, n, k.scalars))
  placed_between o q r (high ∷ low ∷ []) is k = let n : length s.scalars ≡ length (high ∷ low ∷ []) = ap length is in absurd (omega (arith, n, k.scalars))
  placed_between o q r (high ∷ low ∷ operand ∷ others) is k =
      let n : length s.scalars ≡ length (high ∷ low ∷ operand ∷ others) = ap length is in
      with_expr rs es ss cs l p (record s { scalars = others }) (exprs.Between operand low high) (of_scalars (o ∷ q ∷ r ∷ rs) es ss cs l p s rs others (omega (arith, n, k.scalars)) k)

  sought : (o : One) (ready listed : List Scalar) → s.scalars ≡ ready → s.listed ≡ listed → Stand (o ∷ rs) es ss cs true p s → Stand rs (one ∷ es) ss cs false p (values.sought_from ready listed s)
  sought o [] listed is here k = let n : length s.scalars ≡ 0 = ap length is in absurd (omega (arith, n, k.scalars))
  sought o (operand ∷ others) [] is here k = let n : length s.listed ≡ 0 = ap length here in absurd (omega (arith, n, k.listed refl))
  sought o (operand ∷ others) (first ∷ more) is here k = record {
    scalars = let n : length s.scalars ≡ length (operand ∷ others) = ap length is in omega (arith, n, k.scalars);
    shapes = k.shapes;
    exprs = one_more es cs (exprs.Among operand (first ∷ more)) s.exprs s.chains k.exprs;
    listed = λ e. cc;
    pattern = k.pattern;
  }

  matched : (o : One) (ready : List Scalar) (pattern : Option Pattern) → s.scalars ≡ ready → s.pattern ≡ pattern → Stand (o ∷ rs) es ss cs l true s → Stand rs (one ∷ es) ss cs l false (values.matched_from ready pattern s)
  matched o [] pattern is here k = let n : length s.scalars ≡ 0 = ap length is in absurd (omega (arith, n, k.scalars))
  matched o (operand ∷ others) None is here k = let some : is_some s.pattern ≡ true = k.pattern refl in let none : is_some s.pattern ≡ false = ap is_some here in cc
  matched o (operand ∷ others) (Some pattern) is here k = record {
    scalars = let n : length s.scalars ≡ length (operand ∷ others) = ap length is in omega (arith, n, k.scalars);
    shapes = k.shapes;
    exprs = one_more es cs (exprs.Like operand pattern) s.exprs s.chains k.exprs;
    listed = k.listed;
    pattern = λ e. cc;
  }

  met : (o q : One) (ready : List Shape) → s.shapes ≡ ready → Stand rs es (o ∷ q ∷ ss) cs l p s → Stand rs (one ∷ es) ss cs l p (values.met_from ready s)
  met o q [] is k = let n : length s.shapes ≡ 0 = ap length is in absurd (omega (arith, n, k.shapes))
  met o q (right ∷ []) is k = let n : length s.shapes ≡ length (right ∷ []) = ap length is in absurd (omega (arith, n, k.shapes))
  met o q (right ∷ left ∷ others) is k = record {
    scalars = k.scalars;
    shapes = let n : length s.shapes ≡ length (right ∷ left ∷ others) = ap length is in omega (arith, n, k.shapes);
    exprs = one_more es cs (exprs.Meets left right) s.exprs s.chains k.exprs;
    listed = k.listed;
    pattern = k.pattern;
  }

-- ---- each mark

in_some : (h k : Standing) → Some h ≡ Some k → h ≡ k
in_some h k e = cc

pub none_some : (k : Standing) → None ≡ Some k → ⊥
none_some k e = cc

-- a mark whose counts are known
pub so : (h k : Standing) (s : State) → Some h ≡ Some k → Stands h s → Stands k s
so h k s e stands = subst (λ (x : Standing). Stands x s) (in_some h k e) stands

pub does_stands : (text : List ℕ) (mark : Mark) (h k : Standing) (s : State) → mark ≢ marks.Geometry → moves mark h ≡ Some k → Stands h s → Stands k (values.does text mark s)
does_stands text marks.Chain (stand rs es ss cs l p) k s _ e w = so _ k (values.chain_begun s) e (chain_begun rs es ss cs l p s w)
does_stands text marks.Link (stand rs (x ∷ []) ss ((before, some) ∷ cs) l p) k s _ e w = so _ k s e (chain_linked rs [] ss cs l p s x before some w)
does_stands text marks.Or (stand rs [] ss ((before, true) ∷ cs) l p) k s _ e w = so _ k (values.chain_ended exprs.Or s) e (chain_ended rs [] ss cs l p s exprs.Or before w)
does_stands text marks.And (stand rs [] ss ((before, true) ∷ cs) l p) k s _ e w = so _ k (values.chain_ended exprs.And s) e (chain_ended rs [] ss cs l p s exprs.And before w)
does_stands text marks.Negate (stand rs (x ∷ es) ss cs l p) k s _ e w = so _ k (values.negated s) e (negated rs es ss cs l p s x s.exprs refl w)
does_stands text marks.Constant (stand (x ∷ rs) es ss cs l p) k s _ e w = so _ k (values.constant s) e (constant rs es ss cs l p s x s.scalars refl w)
does_stands text marks.Equal (stand (x ∷ y ∷ rs) es ss cs l p) k s _ e w = so _ k (values.compared ops.Eq s) e (compared rs es ss cs l p s x y ops.Eq s.scalars refl w)
does_stands text marks.NotEqual (stand (x ∷ y ∷ rs) es ss cs l p) k s _ e w = so _ k (values.compared ops.Ne s) e (compared rs es ss cs l p s x y ops.Ne s.scalars refl w)
does_stands text marks.Less (stand (x ∷ y ∷ rs) es ss cs l p) k s _ e w = so _ k (values.compared ops.Lt s) e (compared rs es ss cs l p s x y ops.Lt s.scalars refl w)
does_stands text marks.Greater (stand (x ∷ y ∷ rs) es ss cs l p) k s _ e w = so _ k (values.compared ops.Gt s) e (compared rs es ss cs l p s x y ops.Gt s.scalars refl w)
does_stands text marks.AtMost (stand (x ∷ y ∷ rs) es ss cs l p) k s _ e w = so _ k (values.compared ops.Le s) e (compared rs es ss cs l p s x y ops.Le s.scalars refl w)
does_stands text marks.AtLeast (stand (x ∷ y ∷ rs) es ss cs l p) k s _ e w = so _ k (values.compared ops.Ge s) e (compared rs es ss cs l p s x y ops.Ge s.scalars refl w)
does_stands text marks.IsNull (stand (x ∷ rs) es ss cs l p) k s _ e w = so _ k (values.tested_for_null s) e (tested_for_null rs es ss cs l p s x s.scalars refl w)
does_stands text marks.Between (stand (x ∷ y ∷ z ∷ rs) es ss cs l p) k s _ e w = so _ k (values.placed_between s) e (placed_between rs es ss cs l p s x y z s.scalars refl w)
does_stands text marks.List (stand rs es ss cs l p) k s _ e w = so _ k (values.list_begun s) e (list_begun rs es ss cs l p s w)
does_stands text marks.Element (stand (x ∷ rs) es ss cs l p) k s _ e w = so _ k (values.with_element s) e (with_element rs es ss cs l p s x s.scalars refl w)
does_stands text marks.Among (stand (x ∷ rs) es ss cs true p) k s _ e w = so _ k (values.sought s) e (sought rs es ss cs true p s x s.scalars s.listed refl refl w)
does_stands text marks.Like (stand (x ∷ rs) es ss cs l true) k s _ e w = so _ k (values.matched s) e (matched rs es ss cs l true s x s.scalars s.pattern refl refl w)
does_stands text marks.Meets (stand rs es (x ∷ y ∷ ss) cs l p) k s _ e w = so _ k (values.met s) e (met rs es ss cs l p s x y s.shapes refl w)
does_stands text marks.True (stand rs es ss cs l p) k s _ e w = so _ k (values.with_scalar (scalars.Truth true) s) e (with_scalar rs es ss cs l p s (scalars.Truth true) w)
does_stands text marks.False (stand rs es ss cs l p) k s _ e w = so _ k (values.with_scalar (scalars.Truth false) s) e (with_scalar rs es ss cs l p s (scalars.Truth false) w)
does_stands text marks.Property (stand rs es ss cs l p) k s _ e w = so _ k (values.does text marks.Property s) e (with_literal rs es ss cs l p s (values.property_of text s.token) w)
does_stands text marks.Text (stand rs es ss cs l p) k s _ e w = so _ k (values.does text marks.Text s) e (with_literal rs es ss cs l p s (values.text_scalar_of text s.token) w)
does_stands text marks.Number (stand rs es ss cs l p) k s _ e w = so _ k (values.does text marks.Number s) e (with_literal rs es ss cs l p s (values.number_scalar_of text s.token) w)
does_stands text marks.Instant (stand rs es ss cs l p) k s _ e w = so _ k (values.does text marks.Instant s) e (with_literal rs es ss cs l p s (values.instant_scalar_of text s.token) w)
does_stands text marks.Day (stand rs es ss cs l p) k s _ e w = so _ k (values.does text marks.Day s) e (with_literal rs es ss cs l p s (values.day_scalar_of text s.token) w)
does_stands text marks.Fold (stand (x ∷ rs) es ss cs l p) k s _ e w = so _ k (values.folded s) e (folded rs es ss cs l p s x s.scalars refl w)
does_stands text marks.Pattern (stand rs es ss cs l p) k s _ e w = so _ k (values.does text marks.Pattern s) e (with_pattern rs es ss cs l p s (values.pattern_text_of text s.token) w)
does_stands text marks.FoldPattern (stand rs es ss cs l true) k s _ e w = so _ k (values.pattern_folded s) e (pattern_folded rs es ss cs l true s s.pattern (w.pattern refl) w)
does_stands text marks.NamedShape (stand rs es ss cs l p) k s _ e w = so _ k (values.does text marks.NamedShape s) e (with_shape_at rs es ss cs l p s s.token.from (values.named_shape_of text s.token) w)
does_stands text marks.Box (stand rs es ss cs l p) k s _ e w = so _ k (values.box_begun s) e (box_begun rs es ss cs l p s w)
does_stands text marks.Side (stand rs es ss cs l p) k s _ e w = so _ k (values.does text marks.Side s) e (with_side rs es ss cs l p s (dec_of (bytes_of text s.token)) w)
does_stands text marks.Rectangles (stand rs es ss cs l p) k s _ e w = so _ k (values.with_box s) e (box_when rs es ss cs l p s s.bbox.has_wide w)
does_stands text marks.Geometry h k s other e w = absurd (other refl)
does_stands text marks.Outermost h k s _ e w = so h k s e w
does_stands text marks.Points h k s _ e w = so h k s e w
does_stands text marks.Longitude h k s _ e w = so h k s e w
does_stands text marks.Latitude h k s _ e w = so h k s e w
does_stands text marks.Height h k s _ e w = so h k s e w
does_stands text marks.Line h k s _ e w = so h k s e w
does_stands text marks.Ring h k s _ e w = so h k s e w
does_stands text marks.Area h k s _ e w = so h k s e w
does_stands text _ h k s _ e w = absurd (none_some k e)
