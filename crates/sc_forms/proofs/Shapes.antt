-- The tokens of a shape are read as the shape.
use Rattle.std.proofs.Common.{◌≡◌, inl, inr, ℕ, List, [], ◌∷◌, ◌++◌, false, Option, Some, refl, sym, ap, subst, ◌∙◌}
use Rattle.sc_decimal.specs.Number.{Number}
use Rattle.sc_geom.specs.declared.rects.Rects.{Rects}
use Rattle.sc_geom.specs.Rects.{geometry_of}
use Rattle.sc_grammar.specs.Grammar.{tok, non, act}
use Rattle.sc_grammar.specs.declared.token.Class.TheVariants as classes
use Rattle.sc_grammar.specs.declared.token.Token.{Token}
use Rattle.sc_cqlgrammar.specs.declared.rule.Rule.TheVariants as rules
use Rattle.sc_cqlgrammar.specs.declared.mark.Mark.TheVariants as marks
use Rattle.sc_cqlgrammar.specs.Rules.{Items}
use Rattle.sc_expr.specs.declared.scalar.Shape.{Shape}
use Rattle.sc_expr.specs.declared.scalar.Shape.TheVariants as shapes
use Rattle.sc_cqlvalue.specs.declared.state.Bbox.{Bbox}
use Rattle.sc_cqlvalue.specs.Values as values
use Rattle.sc_cqlvalue.specs.Literals.{bytes_of, dec_of}
use Rattle.sc_cqlvalue.specs.Boxes.{rects_of}
use Rattle.sc_cqlread.specs.Reading.{Reading, does}
use Rattle.sc_forms.specs.Forms.{IsNumber, ShapeOf, named_shape, drawn_shape, box, high_box}
use Rattle.sc_forms.proofs.Giving.{Ready, state_of, Is, Any, OfBox, OfLast, At, Gives, gives_none, gives_rule, gives_then, gives_mark, gives_marked, gives_last, gives_token, changed, made_of}
use Rattle.sc_forms.proofs.Scalars.{name_read, narrow_number}
use Rattle.sc_forms.proofs.Outermost.{drawn_read}

abbrev pub with_shape : Shape → Ready → Ready
with_shape s x = record x { shapes = s ∷ x.shapes }

-- a box is open, with these sides
pub record HasSides (sides : List Number) (b : Bbox) : Type 0 where
  pub sides_are : b.sides ≡ sides
  pub narrow : b.has_wide ≡ false

module _ (chars : List ℕ) where
  abbrev Open : List Number → Ready → Reading → Type 0
  Open sides x = Is x (OfBox (HasSides sides))

  box_begun : (x : Ready) (r : Reading) → At x r → Open [] x (does chars marks.Box r)
  box_begun x = changed chars marks.Box x x (OfBox Any) (OfBox (HasSides [])) (λ e. cc) (λ k b known. record {
    box = record { place = k.from; sides = []; has_wide = false };
    known = record { sides_are = refl; narrow = refl };
    made = refl;
  })

  side_put : (x : Ready) (sides : List Number) (t : Token) (n : Number) → dec_of (bytes_of chars t) ≡ Some n → (r : Reading) → Is x (OfLast t (HasSides sides)) r → Open (sides ++ n ∷ []) x (does chars marks.Side r)
  side_put x sides t n value = changed chars marks.Side x x (OfLast t (HasSides sides)) (OfBox (HasSides (sides ++ n ∷ []))) (λ e. cc) (λ k b known. record {
    box = record b { sides = b.sides ++ n ∷ [] };
    known = record { sides_are = ap (λ (l : List Number). l ++ n ∷ []) known.1.sides_are; narrow = known.1.narrow };
    made =
        let same : dec_of (bytes_of chars k) ≡ Some n = subst (λ (u : Token). dec_of (bytes_of chars u) ≡ Some n) (sym known.0) value in
        ap (λ (side : Option Number). values.with_side side (state_of x k b)) same;
  })

  -- a number and its mark
  gives_side : (x : Ready) (sides : List Number) (t : Token) (n : Number) (is : Items) (R : Reading → Type 0) (ts : List Token) → IsNumber chars t n → Gives chars is (Open (sides ++ n ∷ []) x) R ts →
      Gives chars (tok classes.Number ∷ act marks.Side ∷ is) (Open sides x) R (t ∷ ts)
  gives_side x sides t n is R ts number h =
      gives_last chars classes.Number t (act marks.Side ∷ is) x (HasSides sides) R ts number.class (narrow_number chars t n number.value)
      (gives_mark chars marks.Side is (Is x (OfLast t (HasSides sides))) (Open (sides ++ n ∷ []) x) R ts (side_put x sides t n number.value) h)

  box_ended : (x : Ready) (sides : List Number) (rects : Rects) → rects_of sides ≡ Some rects → (r : Reading) → Open sides x r → At (with_shape (shapes.Geom (geometry_of rects)) x) (does chars marks.Rectangles r)
  box_ended x sides rects value = changed chars marks.Rectangles x (with_shape (shapes.Geom (geometry_of rects)) x) (OfBox (HasSides sides)) (OfBox Any) (λ e. cc) (λ k b known. record {
    box = b;
    known = tt;
    made =
        let same : rects_of b.sides ≡ Some rects = ap rects_of known.sides_are ∙ value in
        rw (known.narrow, same) refl;
  })

  gives_end : (x : Ready) (sides : List Number) (rects : Rects) (e : Token) → e.class ≡ classes.Closing → rects_of sides ≡ Some rects →
      Gives chars (tok classes.Closing ∷ act marks.Rectangles ∷ []) (Open sides x) (At (with_shape (shapes.Geom (geometry_of rects)) x)) (e ∷ [])
  gives_end x sides rects e class value =
      let y = with_shape (shapes.Geom (geometry_of rects)) x in
      gives_token chars classes.Closing e (act marks.Rectangles ∷ []) x (HasSides sides) (At y) [] class refl
      (gives_mark chars marks.Rectangles [] (Open sides x) (At y) (At y) [] (box_ended x sides rects value) (gives_none chars (At y)))

  -- a side behind a comma
  gives_more : (x : Ready) (sides : List Number) (m t : Token) (n : Number) (is : Items) (R : Reading → Type 0) (ts : List Token) → m.class ≡ classes.Comma → IsNumber chars t n → Gives chars is (Open (sides ++ n ∷ []) x) R ts →
      Gives chars (tok classes.Comma ∷ tok classes.Number ∷ act marks.Side ∷ is) (Open sides x) R (m ∷ t ∷ ts)
  gives_more x sides m t n is R ts comma number h =
      gives_token chars classes.Comma m (tok classes.Number ∷ act marks.Side ∷ is) x (HasSides sides) R (t ∷ ts) comma refl (gives_side x sides t n is R ts number h)

  abbrev side_behind : Items → Items
  side_behind is = tok classes.Comma ∷ tok classes.Number ∷ act marks.Side ∷ is

  abbrev box_end : Items
  box_end = non rules.SideRest ∷ tok classes.Closing ∷ act marks.Rectangles ∷ []

  abbrev Shapes : List Token → Shape → Type 0
  Shapes ts s = (x : Ready) → Gives chars (non rules.Shape ∷ []) (At x) (At (with_shape s x)) ts

  -- the word, the first four sides, and what comes behind them
  gives_box : (x : Ready) (w o a m b n c p d : Token) (west south east north : Number) (R : Reading → Type 0) (ts : List Token) → w.class ≡ classes.Bbox → o.class ≡ classes.Opening → m.class ≡ classes.Comma → n.class ≡ classes.Comma → p.class ≡ classes.Comma →
      IsNumber chars a west → IsNumber chars b south → IsNumber chars c east → IsNumber chars d north → Gives chars box_end (Open (west ∷ south ∷ east ∷ north ∷ []) x) R ts →
      Gives chars (non rules.Shape ∷ []) (At x) R (w ∷ o ∷ a ∷ m ∷ b ∷ n ∷ c ∷ p ∷ d ∷ ts)
  gives_box x w o a m b n c p d west south east north R ts we oe me ne pe ai bi ci di h =
      let three : Items = side_behind box_end in
      let two : Items = side_behind three in
      let one : Items = side_behind two in
      let sides : Items = tok classes.Number ∷ act marks.Side ∷ one in
      gives_rule chars rules.Shape (tok classes.Bbox ∷ act marks.Box ∷ tok classes.Opening ∷ sides) (At x) R (w ∷ o ∷ a ∷ m ∷ b ∷ n ∷ c ∷ p ∷ d ∷ ts) (inr (inr (inl refl)))
      (gives_token chars classes.Bbox w (act marks.Box ∷ tok classes.Opening ∷ sides) x Any R (o ∷ a ∷ m ∷ b ∷ n ∷ c ∷ p ∷ d ∷ ts) we refl
      (gives_mark chars marks.Box (tok classes.Opening ∷ sides) (At x) (Open [] x) R (o ∷ a ∷ m ∷ b ∷ n ∷ c ∷ p ∷ d ∷ ts) (box_begun x)
      (gives_token chars classes.Opening o sides x (HasSides []) R (a ∷ m ∷ b ∷ n ∷ c ∷ p ∷ d ∷ ts) oe refl
      (gives_side x [] a west one R (m ∷ b ∷ n ∷ c ∷ p ∷ d ∷ ts) ai
      (gives_more x (west ∷ []) m b south two R (n ∷ c ∷ p ∷ d ∷ ts) me bi
      (gives_more x (west ∷ south ∷ []) n c east three R (p ∷ d ∷ ts) ne ci
      (gives_more x (west ∷ south ∷ east ∷ []) p d north box_end R ts pe di h)))))))

  pub shape_read : (ts : List Token) (s : Shape) → ShapeOf chars ts s → Shapes ts s
  shape_read _ _ (named_shape t n class value) x =
      let y = with_shape (shapes.Prop n) x in
      gives_rule chars rules.Shape (non rules.Name ∷ act marks.NamedShape ∷ []) (At x) (At y) (t ∷ []) (inl refl)
      (gives_marked chars rules.Name marks.NamedShape (At x) (Is x (OfLast t Any)) (At y) (t ∷ []) (name_read chars t class x) (made_of chars marks.NamedShape x y t (λ e. cc) (λ b. rw value refl)))
  shape_read _ _ (drawn_shape ts g is) x = drawn_read chars ts g is x
  shape_read _ _ (box w o a m b n c p d e west south east north rects are ai bi ci di value) x =
      let sides : List Number = west ∷ south ∷ east ∷ north ∷ [] in
      let R : Reading → Type 0 = At (with_shape (shapes.Geom (geometry_of rects)) x) in
      gives_box x w o a m b n c p d west south east north R (e ∷ []) are.0 are.1.0 are.1.1.0 are.1.1.1.0 are.1.1.1.1.0 ai bi ci di
      (gives_then chars rules.SideRest (tok classes.Closing ∷ act marks.Rectangles ∷ []) (Open sides x) (Open sides x) R [] (e ∷ [])
      (gives_rule chars rules.SideRest [] (Open sides x) (Open sides x) [] (inr (inl refl)) (gives_none chars (Open sides x)))
      (gives_end x sides rects e are.1.1.1.1.1.0 value))
  shape_read _ _ (high_box w o a m b n c p d q f s g e west south low east north high rects are ai bi ci di fi gi value) x =
      let four : List Number = west ∷ south ∷ low ∷ east ∷ [] in
      let sides : List Number = west ∷ south ∷ low ∷ east ∷ north ∷ high ∷ [] in
      let R : Reading → Type 0 = At (with_shape (shapes.Geom (geometry_of rects)) x) in
      gives_box x w o a m b n c p d west south low east R (q ∷ f ∷ s ∷ g ∷ e ∷ []) are.0 are.1.0 are.1.1.0 are.1.1.1.0 are.1.1.1.1.0 ai bi ci di
      (gives_then chars rules.SideRest (tok classes.Closing ∷ act marks.Rectangles ∷ []) (Open four x) (Open sides x) R (q ∷ f ∷ s ∷ g ∷ []) (e ∷ [])
      (gives_rule chars rules.SideRest (side_behind (side_behind [])) (Open four x) (Open sides x) (q ∷ f ∷ s ∷ g ∷ []) (inl refl)
      (gives_more x four q f north (side_behind []) (Open sides x) (s ∷ g ∷ []) are.1.1.1.1.1.0 fi
      (gives_more x (west ∷ south ∷ low ∷ east ∷ north ∷ []) s g high [] (Open sides x) [] are.1.1.1.1.1.1.0 gi (gives_none chars (Open sides x)))))
      (gives_end x sides rects e are.1.1.1.1.1.1.1.0 value))
