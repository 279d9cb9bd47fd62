-- What items make of tokens and of what was read before: from states of one kind to states of another.
use Rattle.std.proofs.Common.{◌≡◌, ◌≢◌, ℕ, List, [], ◌∷◌, ◌++◌, Option, None, refl, sym, ap, subst, ◌∙◌, append-nil, append_assoc}
use Rattle.sc_grammar.specs.Grammar.{tok, non, act, done, token, mark, rule}
use Rattle.sc_grammar.specs.Words.{bytes_of}
use Rattle.sc_grammar.specs.declared.token.Class.{Class}
use Rattle.sc_grammar.specs.declared.token.Token.{Token}
use Rattle.sc_cqlgrammar.specs.declared.rule.Rule.{Rule}
use Rattle.sc_cqlgrammar.specs.declared.mark.Mark.{Mark}
use Rattle.sc_cqlgrammar.specs.declared.mark.Mark.TheVariants as marks
use Rattle.sc_cqlgrammar.specs.Rules.{Items, IsAlternative}
use Rattle.sc_cqlgrammar.proofs.Readings.{Left}
use Rattle.sc_wkt.specs.Drawing.{wide_of}
use Rattle.sc_expr.specs.declared.scalar.Scalar.{Scalar}
use Rattle.sc_expr.specs.declared.scalar.Shape.{Shape}
use Rattle.sc_expr.specs.declared.scalar.Pattern.{Pattern}
use Rattle.sc_expr.specs.declared.expr.Expr.{Expr}
use Rattle.sc_cqlvalue.specs.declared.state.State.{State}
use Rattle.sc_cqlvalue.specs.declared.state.Bbox.{Bbox}
use Rattle.sc_cqlvalue.specs.Values as values
use Rattle.sc_cqlread.specs.Reading.{Reading, eats, does}

-- what stands ready
pub record Ready : Type 0 where
  pub scalars : List Scalar
  pub exprs : List Expr
  pub shapes : List Shape
  pub chains : List ℕ
  pub listed : List Scalar
  pub pattern : Option Pattern

abbrev pub state_of : Ready → Token → Bbox → State
state_of x k b = record { token = k; scalars = x.scalars; exprs = x.exprs; shapes = x.shapes; chains = x.chains; listed = x.listed; pattern = x.pattern; bbox = b; bad = None }

-- this stands ready, every literal so far was read, and so much is known of the last token and of the box
pub record Is (x : Ready) (P : Token → Bbox → Type 0) (r : Reading) : Type 0 where
  pub last : Token
  pub bbox : Bbox
  pub known : P last bbox
  pub values : r.values ≡ state_of x last bbox
  pub wide : r.wide ≡ None

-- of any box
abbrev pub Any : Bbox → Type 0
Any b = Unit {0}

-- of any last token
abbrev pub OfBox : (Bbox → Type 0) → Token → Bbox → Type 0
OfBox P k b = P b

-- of this last token
abbrev pub OfLast : Token → (Bbox → Type 0) → Token → Bbox → Type 0
OfLast t P k b = (k ≡ t) × P b

abbrev pub At : Ready → Reading → Type 0
At x = Is x (OfBox Any)

pub forget : (x : Ready) (P : Bbox → Type 0) (t : Token) (r : Reading) → Is x (OfLast t P) r → Is x (OfBox P) r
forget x P t r on = record { last = on.last; bbox = on.bbox; known = on.known.1; values = on.values; wide = on.wide }

module _ (chars : List ℕ) where
  abbrev pub Makes : Items → Reading → List Token → Reading → Type 0
  Makes = Left Reading (eats chars) (does chars)

  abbrev pub Gives : Items → (Reading → Type 0) → (Reading → Type 0) → List Token → Type 0
  Gives items P Q ts = (r : Reading) → P r → (e : Reading) × Makes items r ts e × Q e

  makes_append : (is js : Items) (s m e : Reading) (ts us : List Token) → Makes is s ts m → Makes js m us e → Makes (is ++ js) s (ts ++ us) e
  makes_append _ js _ _ e _ us (done s) k = k
  makes_append _ js _ _ e _ us (token t is s ts s' d) k = token t (is ++ js) s (ts ++ us) e (makes_append is js (eats chars t s) s' e ts us d k)
  makes_append _ js _ _ e _ us (mark m is s ts s' d) k = mark m (is ++ js) s (ts ++ us) e (makes_append is js (does chars m s) s' e ts us d k)
  makes_append _ js _ _ e _ us (rule n a is s ts s' r d) k =
      rule n a (is ++ js) s (ts ++ us) e r
      (subst (λ (x : Items). Makes x s (ts ++ us) e) (append_assoc a is js) (makes_append (a ++ is) js s s' e ts us d k))

  -- ---- one behind the other

  pub gives_none : (P : Reading → Type 0) → Gives [] P P []
  gives_none P r p = (r, done r, p)

  pub gives_append : (is js : Items) (P Q R : Reading → Type 0) (ts us : List Token) → Gives is P Q ts → Gives js Q R us → Gives (is ++ js) P R (ts ++ us)
  gives_append is js P Q R ts us h k r p =
      let one = h r p in
      let two = k one.0 one.2 in
      (two.0, makes_append is js r one.0 two.0 ts us one.1 two.1, two.2)

  pub gives_rule : (n : Rule) (a : Items) (P Q : Reading → Type 0) (ts : List Token) → IsAlternative n a → Gives a P Q ts → Gives (non n ∷ []) P Q ts
  gives_rule n a P Q ts is h r p =
      let one = h r p in
      (one.0, rule n a [] r ts one.0 is (subst (λ (x : Items). Makes x r ts one.0) (sym (append-nil a)) one.1), one.2)

  pub gives_then : (n : Rule) (is : Items) (P Q R : Reading → Type 0) (ts us : List Token) → Gives (non n ∷ []) P Q ts → Gives is Q R us → Gives (non n ∷ is) P R (ts ++ us)
  gives_then n is P Q R ts us h k = gives_append (non n ∷ []) is P Q R ts us h k

  pub gives_mark : (m : Mark) (is : Items) (P Q R : Reading → Type 0) (ts : List Token) → ((r : Reading) → P r → Q (does chars m r)) → Gives is Q R ts → Gives (act m ∷ is) P R ts
  gives_mark m is P Q R ts f h r p = let one = h (does chars m r) (f r p) in (one.0, mark m is r ts one.0 one.1, one.2)

  pub gives_marked : (n : Rule) (m : Mark) (P Q R : Reading → Type 0) (ts : List Token) → Gives (non n ∷ []) P Q ts → ((r : Reading) → Q r → R (does chars m r)) → Gives (non n ∷ act m ∷ []) P R ts
  gives_marked n m P Q R ts h f =
      subst (Gives (non n ∷ act m ∷ []) P R) (append-nil ts) (gives_then n (act m ∷ []) P Q R ts [] h (gives_mark m [] Q R R [] f (gives_none R)))

  -- ---- tokens

  -- it is no number that is too wide
  abbrev pub IsNarrow : Class → Token → Type 0
  IsNarrow c t = wide_of c (bytes_of chars t.from t.to) t.from ≡ None

  eaten : (x : Ready) (P : Bbox → Type 0) (c : Class) (t : Token) → t.class ≡ c → IsNarrow c t → (r : Reading) → Is x (OfBox P) r → Is x (OfLast t P) (eats chars t r)
  unfolding eats
  eaten x P c t class narrow r at = record {
    last = t;
    bbox = at.bbox;
    known = (refl, at.known);
    values = ap (λ (s : State). values.eats t s) at.values;
    wide = rw (at.wide, class) narrow;
  }

  pub gives_last : (c : Class) (t : Token) (is : Items) (x : Ready) (P : Bbox → Type 0) (R : Reading → Type 0) (ts : List Token) → t.class ≡ c → IsNarrow c t → Gives is (Is x (OfLast t P)) R ts → Gives (tok c ∷ is) (Is x (OfBox P)) R (t ∷ ts)
  gives_last c t is x P R ts class narrow h r at =
      let one = h (eats chars t r) (eaten x P c t class narrow r at) in
      (one.0, subst (λ (d : Class). Makes (tok d ∷ is) r (t ∷ ts) one.0) class (token t is r ts one.0 one.1), one.2)

  pub gives_token : (c : Class) (t : Token) (is : Items) (x : Ready) (P : Bbox → Type 0) (R : Reading → Type 0) (ts : List Token) → t.class ≡ c → IsNarrow c t → Gives is (Is x (OfBox P)) R ts → Gives (tok c ∷ is) (Is x (OfBox P)) R (t ∷ ts)
  gives_token c t is x P R ts class narrow h = gives_last c t is x P R ts class narrow (λ r on. h r (forget x P t r on))

  -- ---- marks, but that of a geometry

  values_marked : (m : Mark) (r : Reading) → m ≢ marks.Geometry → (does chars m r).values ≡ values.does chars m r.values
  unfolding does
  values_marked marks.Geometry r other = absurd (other refl)
  values_marked _ r other = refl

  wide_marked : (m : Mark) (r : Reading) → (does chars m r).wide ≡ r.wide
  unfolding does
  wide_marked marks.Geometry r = refl
  wide_marked _ r = refl

  -- what it makes of a box and of what stands ready
  pub record Changes (m : Mark) (x y : Ready) (Q : Token → Bbox → Type 0) (k : Token) (b : Bbox) : Type 0 where
    pub box : Bbox
    pub known : Q k box
    pub made : values.does chars m (state_of x k b) ≡ state_of y k box

  pub changed : (m : Mark) (x y : Ready) (P Q : Token → Bbox → Type 0) → m ≢ marks.Geometry → ((k : Token) (b : Bbox) → P k b → Changes m x y Q k b) → (r : Reading) → Is x P r → Is y Q (does chars m r)
  changed m x y P Q other change r at =
      let c = change at.last at.bbox at.known in
      record {
        last = at.last;
        bbox = c.box;
        known = c.known;
        values = values_marked m r other ∙ ap (values.does chars m) at.values ∙ c.made;
        wide = wide_marked m r ∙ at.wide;
      }

  -- whatever the last token is
  pub made : (m : Mark) (x y : Ready) → m ≢ marks.Geometry → ((k : Token) (b : Bbox) → values.does chars m (state_of x k b) ≡ state_of y k b) → (r : Reading) → At x r → At y (does chars m r)
  made m x y other is = changed m x y (OfBox Any) (OfBox Any) other (λ k b known. record { box = b; known = tt; made = is k b })

  -- by the last token
  pub made_of : (m : Mark) (x y : Ready) (t : Token) → m ≢ marks.Geometry → ((b : Bbox) → values.does chars m (state_of x t b) ≡ state_of y t b) → (r : Reading) → Is x (OfLast t Any) r → At y (does chars m r)
  made_of m x y t other is =
      changed m x y (OfLast t Any) (OfBox Any) other
      (λ k b known. record { box = b; known = tt; made = subst (λ (u : Token). values.does chars m (state_of x u b) ≡ state_of y u b) (sym known.0) (is b) })

  pub gives_made : (m : Mark) (x y : Ready) → m ≢ marks.Geometry → ((k : Token) (b : Bbox) → values.does chars m (state_of x k b) ≡ state_of y k b) → Gives (act m ∷ []) (At x) (At y) []
  gives_made m x y other is = gives_mark m [] (At x) (At y) (At y) [] (made m x y other is) (gives_none (At y))

  -- a literal token and its mark, and what comes behind
  pub gives_literal : (c : Class) (t : Token) (m : Mark) (is : Items) (x y : Ready) (R : Reading → Type 0) (ts : List Token) → t.class ≡ c → IsNarrow c t → m ≢ marks.Geometry → ((b : Bbox) → values.does chars m (state_of x t b) ≡ state_of y t b) → Gives is (At y) R ts → Gives (tok c ∷ act m ∷ is) (At x) R (t ∷ ts)
  gives_literal c t m is x y R ts class narrow other made h =
      gives_last c t (act m ∷ is) x Any R ts class narrow (gives_mark m is (Is x (OfLast t Any)) (At y) R ts (made_of m x y t other made) h)
