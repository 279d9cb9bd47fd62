-- What rules make of tokens, as they are written, of what was read before: from states of one kind to states of another.
use Rattle.std.proofs.Common.{◌≡◌, ℕ, List, [], ◌∷◌, ◌++◌, Option, None, refl, sym, ap, subst, ◌∙◌, append-nil, append_assoc, codes}
use Rattle.sc_grammar.specs.Grammar.{tok, non, act, Derives, done, token, mark, rule}
use Rattle.sc_grammar.specs.Words.{word_of, keyword_of, function_of, geometry_of, is_z, bytes_of}
use Rattle.sc_grammar.specs.declared.token.Class.{Class}
use Rattle.sc_grammar.specs.declared.token.Class.TheVariants as classes
use Rattle.sc_grammar.specs.declared.token.Token.{Token as Told}
use Rattle.sc_cqlgrammar.specs.declared.rule.Rule.{Rule}
use Rattle.sc_cqlgrammar.specs.declared.mark.Mark.{Mark}
use Rattle.sc_cqlgrammar.specs.Rules.{Items, IsAlternative}
use Rattle.sc_cqlgrammar.specs.Reading as grammars
use Rattle.sc_wkt.specs.Drawing.{wide_of}
use Rattle.sc_expr.specs.declared.scalar.Scalar.{Scalar}
use Rattle.sc_expr.specs.declared.scalar.Shape.{Shape}
use Rattle.sc_expr.specs.declared.scalar.Pattern.{Pattern}
use Rattle.sc_expr.specs.declared.expr.Expr.{Expr}
use Rattle.sc_cqlvalue.specs.declared.state.State.{State}
use Rattle.sc_cqlvalue.specs.declared.state.Bbox.{Bbox}
use Rattle.sc_cqlvalue.specs.Values as values
use Rattle.sc_cqlread.specs.Reading.{Reading, eats, does}
use Rattle.sc_cqlwrite.specs.Tokens as tokens
use Rattle.sc_cqlwrite.specs.Tokens.{Token, spelled, before_each}
use Rattle.sc_cqlback.specs.Read.{class_of}
use Rattle.sc_cqltext.proofs.Deriving.{left_append}

-- what stands ready
pub record Ready : Type 0 where
  pub scalars : List Scalar
  pub exprs : List Expr
  pub shapes : List Shape
  pub chains : List ℕ
  pub listed : List Scalar
  pub pattern : Option Pattern

abbrev pub state_of : Ready → Told → Bbox → State
state_of x k b = record { token = k; scalars = x.scalars; exprs = x.exprs; shapes = x.shapes; chains = x.chains; listed = x.listed; pattern = x.pattern; bbox = b; bad = None }

module _ (chars : List ℕ) where
  -- a token as it is told is the one that is written
  pub record IsTold (k : Told) (t : Token) : Type 0 where
    pub class : k.class ≡ class_of t
    pub bytes : bytes_of chars k.from k.to ≡ spelled t

  abbrev pub AreTold : List Told → List Token → Type 0
  AreTold [] [] = Unit {0}
  AreTold [] (t ∷ ts) = ⊥
  AreTold (k ∷ ks) [] = ⊥
  AreTold (k ∷ ks) (t ∷ ts) = IsTold k t × AreTold ks ts

  -- this stands ready, and every literal so far was read
  pub record At (x : Ready) (r : Reading) : Type 0 where
    pub last : Told
    pub bbox : Bbox
    pub values : r.values ≡ state_of x last bbox
    pub wide : r.wide ≡ None

  -- and the last token is this one
  pub record On (x : Ready) (t : Token) (r : Reading) : Type 0 where
    pub last : Told
    pub bbox : Bbox
    pub values : r.values ≡ state_of x last bbox
    pub wide : r.wide ≡ None
    pub told : IsTold last t

  pub forget : (x : Ready) (t : Token) (r : Reading) → On x t r → At x r
  forget x t r on = record { last = on.last; bbox = on.bbox; values = on.values; wide = on.wide }

  abbrev pub Left : Items → Reading → List Told → Reading → Type 0
  Left = Derives Told Class Rule Mark Reading grammars.class_of (eats chars) (does chars) IsAlternative

  abbrev pub Gives : Items → (Reading → Type 0) → (Reading → Type 0) → List Token → Type 0
  Gives items P Q ts = (ks : List Told) → AreTold ks ts → (r : Reading) → P r → (e : Reading) × Left items r ks e × Q e

  abbrev pub Rules : Rule → (Reading → Type 0) → (Reading → Type 0) → List Token → Type 0
  Rules n = Gives (non n ∷ [])

  pub gives_none : (P : Reading → Type 0) → Gives [] P P []
  gives_none P [] told r p = (r, done r, p)
  gives_none P (k ∷ ks) told r p = absurd told

  -- ---- one behind the other

  cut : (ks : List Told) (ts us : List Token) → AreTold ks (ts ++ us) → (a : List Told) × (b : List Told) × (a ++ b ≡ ks) × AreTold a ts × AreTold b us
  cut ks [] us h = ([], ks, refl, tt, h)
  cut [] (t ∷ ts) us h = absurd h
  cut (k ∷ ks) (t ∷ ts) us h =
      let rest = cut ks ts us h.1 in
      (k ∷ rest.0, rest.1, ap (λ (l : List Told). k ∷ l) rest.2, (h.0, rest.3), rest.4)

  pub gives_append : (is js : Items) (P Q R : Reading → Type 0) (ts us : List Token) → Gives is P Q ts → Gives js Q R us → Gives (is ++ js) P R (ts ++ us)
  gives_append is js P Q R ts us h k ks told r p =
      let c = cut ks ts us told in
      let one = h c.0 c.3 r p in
      let two = k c.1 c.4 one.0 one.2 in
      (two.0, subst (λ (l : List Told). Left (is ++ js) r l two.0) c.2 (left_append Told Class Rule Mark Reading grammars.class_of (eats chars) (does chars) IsAlternative is js r one.0 two.0 c.0 c.1 one.1 two.1), two.2)

  pub gives_rule : (n : Rule) (a : Items) (P Q : Reading → Type 0) (ts : List Token) → IsAlternative n a → Gives a P Q ts → Rules n P Q ts
  gives_rule n a P Q ts is h ks told r p =
      let one = h ks told r p in
      (one.0, rule n a [] r ks one.0 is (subst (λ (x : Items). Left x r ks one.0) (sym (append-nil a)) one.1), one.2)

  pub gives_then : (n : Rule) (is : Items) (P Q R : Reading → Type 0) (ts us : List Token) → Rules n P Q ts → Gives is Q R us → Gives (non n ∷ is) P R (ts ++ us)
  gives_then n is P Q R ts us h k = gives_append (non n ∷ []) is P Q R ts us h k

  pub gives_mark : (m : Mark) (is : Items) (P Q R : Reading → Type 0) (ts : List Token) → ((r : Reading) → P r → Q (does chars m r)) → Gives is Q R ts → Gives (act m ∷ is) P R ts
  gives_mark m is P Q R ts f h ks told r p = let one = h ks told (does chars m r) (f r p) in (one.0, mark m is r ks one.0 one.1, one.2)

  pub gives_marked : (n : Rule) (m : Mark) (P Q R : Reading → Type 0) (ts : List Token) → Rules n P Q ts → ((r : Reading) → Q r → R (does chars m r)) → Gives (non n ∷ act m ∷ []) P R ts
  gives_marked n m P Q R ts h f =
      subst (Gives (non n ∷ act m ∷ []) P R) (append-nil ts) (gives_then n (act m ∷ []) P Q R ts [] h (gives_mark m [] Q R R [] f (gives_none R)))

  pub gives_both : (n m : Rule) (is : Items) (P Q R S : Reading → Type 0) (ts us vs : List Token) → Rules n P Q ts → Rules m Q R us → Gives is R S vs → Gives (non n ∷ non m ∷ is) P S ((ts ++ us) ++ vs)
  gives_both n m is P Q R S ts us vs h k l =
      subst (Gives (non n ∷ non m ∷ is) P S) (sym (append_assoc ts us vs)) (gives_then n (non m ∷ is) P Q S ts (us ++ vs) h (gives_then m is Q R S us vs k l))

  pub gives_token : (t : Token) (is : Items) (P Q R : Reading → Type 0) (ts : List Token) → ((k : Told) → IsTold k t → (r : Reading) → P r → Q (eats chars k r)) → Gives is Q R ts → Gives (tok (class_of t) ∷ is) P R (t ∷ ts)
  gives_token t is P Q R ts f h [] told r p = absurd told
  gives_token t is P Q R ts f h (k ∷ ks) told r p =
      let one = h ks told.1 (eats chars k r) (f k told.0 r p) in
      (one.0, subst (λ (c : Class). Left (tok c ∷ is) r (k ∷ ks) one.0) told.0.class (token k is r ks one.0 one.1), one.2)

  -- ---- tokens that aren't too wide

  abbrev pub IsPlain : Token → Type 0
  IsPlain t = (place : ℕ) → wide_of (class_of t) (spelled t) place ≡ None

  pub eaten : (x : Ready) (t : Token) → IsPlain t → (k : Told) → IsTold k t → (r : Reading) → At x r → On x t (eats chars k r)
  unfolding eats
  eaten x t plain k told r at = record {
    last = k;
    bbox = at.bbox;
    values = ap (λ (s : State). values.eats k s) at.values;
    wide = rw (at.wide, told.class, told.bytes) (plain k.from);
    told = told;
  }

  pub gives_plain : (t : Token) (is : Items) (x : Ready) (R : Reading → Type 0) (ts : List Token) → IsPlain t → Gives is (At x) R ts → Gives (tok (class_of t) ∷ is) (At x) R (t ∷ ts)
  gives_plain t is x R ts plain h =
      gives_token t is (At x) (At x) R ts (λ k told r at. forget x t (eats chars k r) (eaten x t plain k told r at)) h

  pub gives_kept : (t : Token) (is : Items) (x : Ready) (R : Reading → Type 0) (ts : List Token) → IsPlain t → Gives is (On x t) R ts → Gives (tok (class_of t) ∷ is) (At x) R (t ∷ ts)
  gives_kept t is x R ts plain h = gives_token t is (At x) (On x t) R ts (eaten x t plain) h

  -- ---- marks

  -- a mark that isn't a geometry's
  pub record IsValued (m : Mark) : Type 0 where
    pub values_are : (r : Reading) → (does chars m r).values ≡ values.does chars m r.values
    pub wide_is : (r : Reading) → (does chars m r).wide ≡ r.wide

  pub done_at : (m : Mark) (x y : Ready) → IsValued m → ((k : Told) (b : Bbox) → values.does chars m (state_of x k b) ≡ state_of y k b) → (r : Reading) → At x r → At y (does chars m r)
  done_at m x y valued is r at = record {
    last = at.last;
    bbox = at.bbox;
    values = valued.values_are r ∙ ap (values.does chars m) at.values ∙ is at.last at.bbox;
    wide = valued.wide_is r ∙ at.wide;
  }

  pub done_on : (m : Mark) (x y : Ready) (t : Token) → IsValued m → ((k : Told) (b : Bbox) → IsTold k t → values.does chars m (state_of x k b) ≡ state_of y k b) → (r : Reading) → On x t r → At y (does chars m r)
  done_on m x y t valued is r on = record {
    last = on.last;
    bbox = on.bbox;
    values = valued.values_are r ∙ ap (values.does chars m) on.values ∙ is on.last on.bbox on.told;
    wide = valued.wide_is r ∙ on.wide;
  }

  -- ---- words

  pub gives_true : (is : Items) (x : Ready) (R : Reading → Type 0) (ts : List Token) → Gives is (At x) R ts → Gives (tok classes.True ∷ is) (At x) R (tokens.word (codes "TRUE") ∷ ts)
  unfolding word_of keyword_of function_of geometry_of is_z
  gives_true is x R ts h = gives_plain (tokens.word (codes "TRUE")) is x R ts (λ place. refl) h

  pub gives_false : (is : Items) (x : Ready) (R : Reading → Type 0) (ts : List Token) → Gives is (At x) R ts → Gives (tok classes.False ∷ is) (At x) R (tokens.word (codes "FALSE") ∷ ts)
  unfolding word_of keyword_of function_of geometry_of is_z
  gives_false is x R ts h = gives_plain (tokens.word (codes "FALSE")) is x R ts (λ place. refl) h

  pub gives_and : (is : Items) (x : Ready) (R : Reading → Type 0) (ts : List Token) → Gives is (At x) R ts → Gives (tok classes.And ∷ is) (At x) R (tokens.word (codes "AND") ∷ ts)
  unfolding word_of keyword_of function_of geometry_of is_z
  gives_and is x R ts h = gives_plain (tokens.word (codes "AND")) is x R ts (λ place. refl) h

  pub gives_or : (is : Items) (x : Ready) (R : Reading → Type 0) (ts : List Token) → Gives is (At x) R ts → Gives (tok classes.Or ∷ is) (At x) R (tokens.word (codes "OR") ∷ ts)
  unfolding word_of keyword_of function_of geometry_of is_z
  gives_or is x R ts h = gives_plain (tokens.word (codes "OR")) is x R ts (λ place. refl) h

  pub gives_not : (is : Items) (x : Ready) (R : Reading → Type 0) (ts : List Token) → Gives is (At x) R ts → Gives (tok classes.Not ∷ is) (At x) R (tokens.word (codes "NOT") ∷ ts)
  unfolding word_of keyword_of function_of geometry_of is_z
  gives_not is x R ts h = gives_plain (tokens.word (codes "NOT")) is x R ts (λ place. refl) h

  pub gives_is : (is : Items) (x : Ready) (R : Reading → Type 0) (ts : List Token) → Gives is (At x) R ts → Gives (tok classes.Is ∷ is) (At x) R (tokens.word (codes "IS") ∷ ts)
  unfolding word_of keyword_of function_of geometry_of is_z
  gives_is is x R ts h = gives_plain (tokens.word (codes "IS")) is x R ts (λ place. refl) h

  pub gives_null : (is : Items) (x : Ready) (R : Reading → Type 0) (ts : List Token) → Gives is (At x) R ts → Gives (tok classes.Null ∷ is) (At x) R (tokens.word (codes "NULL") ∷ ts)
  unfolding word_of keyword_of function_of geometry_of is_z
  gives_null is x R ts h = gives_plain (tokens.word (codes "NULL")) is x R ts (λ place. refl) h

  pub gives_between : (is : Items) (x : Ready) (R : Reading → Type 0) (ts : List Token) → Gives is (At x) R ts → Gives (tok classes.Between ∷ is) (At x) R (tokens.word (codes "BETWEEN") ∷ ts)
  unfolding word_of keyword_of function_of geometry_of is_z
  gives_between is x R ts h = gives_plain (tokens.word (codes "BETWEEN")) is x R ts (λ place. refl) h

  pub gives_in : (is : Items) (x : Ready) (R : Reading → Type 0) (ts : List Token) → Gives is (At x) R ts → Gives (tok classes.In ∷ is) (At x) R (tokens.word (codes "IN") ∷ ts)
  unfolding word_of keyword_of function_of geometry_of is_z
  gives_in is x R ts h = gives_plain (tokens.word (codes "IN")) is x R ts (λ place. refl) h

  pub gives_like : (is : Items) (x : Ready) (R : Reading → Type 0) (ts : List Token) → Gives is (At x) R ts → Gives (tok classes.Like ∷ is) (At x) R (tokens.word (codes "LIKE") ∷ ts)
  unfolding word_of keyword_of function_of geometry_of is_z
  gives_like is x R ts h = gives_plain (tokens.word (codes "LIKE")) is x R ts (λ place. refl) h

  pub gives_casei : (is : Items) (x : Ready) (R : Reading → Type 0) (ts : List Token) → Gives is (At x) R ts → Gives (tok classes.Casei ∷ is) (At x) R (tokens.function (codes "CASEI") ∷ ts)
  unfolding word_of keyword_of function_of geometry_of is_z
  gives_casei is x R ts h = gives_plain (tokens.function (codes "CASEI")) is x R ts (λ place. refl) h

  pub gives_timestamp : (is : Items) (x : Ready) (R : Reading → Type 0) (ts : List Token) → Gives is (At x) R ts → Gives (tok classes.Timestamp ∷ is) (At x) R (tokens.function (codes "TIMESTAMP") ∷ ts)
  unfolding word_of keyword_of function_of geometry_of is_z
  gives_timestamp is x R ts h = gives_plain (tokens.function (codes "TIMESTAMP")) is x R ts (λ place. refl) h

  pub gives_s_intersects : (is : Items) (x : Ready) (R : Reading → Type 0) (ts : List Token) → Gives is (At x) R ts → Gives (tok classes.SIntersects ∷ is) (At x) R (tokens.function (codes "S_INTERSECTS") ∷ ts)
  unfolding word_of keyword_of function_of geometry_of is_z
  gives_s_intersects is x R ts h = gives_plain (tokens.function (codes "S_INTERSECTS")) is x R ts (λ place. refl) h
