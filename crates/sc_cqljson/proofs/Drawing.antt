-- What an object draws, and what is told of one that draws nothing.
use Rattle.std.proofs.Common.{◌≡◌, ℕ, List, Some, refl, sym, subst, ◌∙◌}
use Rattle.sc_decimal.specs.Number.{Number}
use Rattle.sc_json.specs.declared.tree.Json.{Json}
use Rattle.sc_geom.specs.declared.point.Pt.{Pt}
use Rattle.sc_geom.specs.declared.rects.Rects.{Rects}
use Rattle.sc_geom.specs.Shapes.{Shapes}
use Rattle.sc_geom.specs.Rects.{AreRects}
use Rattle.sc_expr.specs.declared.fault.CqlFault.{CqlFault}
use Rattle.sc_expr.specs.declared.fault.CqlFault.TheVariants.{Syntax, TooDeep, TooManyNodes, BadLiteral, OutOfMemory}
use Rattle.sc_cqljson.specs.Operators.{shape}
use Rattle.sc_cqljson.specs.Heads.{Head, bbox, geometry, head_of}
use Rattle.sc_cqljson.specs.Drawn.{numbers_in, BoxOf, PlainOf, DrawsBy, Draws}
use Rattle.sc_cqljson.specs.Unfit.{Unfit}
use Rattle.sc_cqljson.specs.Told.{Tells, CantBeDrawn}
use Rattle.sc_cqljson.proofs.Forming.{formed_by}
use Rattle.sc_cqljson.proofs.Leaves.{told_of_drawing}

pub box_refused : (value : Json) (numbers : List Number) → Some numbers ≡ numbers_in value → ((r : Rects) → AreRects numbers r → ⊥) → (◌≡◌ {A = ℕ} 0 0) × ((g : Shapes Pt) → BoxOf value g → ⊥)
box_refused value numbers e none = (
  refl,
  λ g b.
      let s : Some b.numbers ≡ Some numbers = sym b.are ∙ sym e in
      let t : b.numbers ≡ numbers = cc in
      none b.rects (subst (λ (ns : List Number). AreRects ns b.rects) t b.span),
)

cant : (P Q : Shapes Pt → Type 0) (f : CqlFault) → ((g : Shapes Pt) → Q g → P g) → CantBeDrawn P f → CantBeDrawn Q f
cant P Q (Syntax at) h c = c
cant P Q (BadLiteral at) h c = (c.0, λ g q. c.1 g (h g q))
cant P Q TooDeep h c = c
cant P Q TooManyNodes h c = c
cant P Q OutOfMemory h c = tt

module _ (tree : Json) where
  drawn_as : (h : Head) (g : Shapes Pt) → h ≡ head_of tree → DrawsBy h tree g → Draws tree g
  drawn_as h g e d = subst (λ (k : Head). DrawsBy k tree g) e d

  drawn_by : (h : Head) (g : Shapes Pt) → h ≡ head_of tree → Draws tree g → DrawsBy h tree g
  drawn_by h g e d = subst (λ (k : Head). DrawsBy k tree g) (sym e) d

  pub draws_box : (value : Json) (g : Shapes Pt) → bbox value ≡ head_of tree → BoxOf value g → Draws tree g
  draws_box value g e b = drawn_as (bbox value) g e b

  pub draws_plain : (g : Shapes Pt) → geometry ≡ head_of tree → PlainOf tree g → Draws tree g
  draws_plain g e p = drawn_as geometry g e p

  pub told_of_box : (value : Json) (f : CqlFault) → bbox value ≡ head_of tree → CantBeDrawn (BoxOf value) f → Tells (Unfit shape tree) f
  told_of_box value f e c =
      told_of_drawing tree f (formed_by shape tree (bbox value) (sym e) tt tt) (cant (BoxOf value) (Draws tree) f (λ g d. drawn_by (bbox value) g e d) c)

  pub told_of_plain : (f : CqlFault) → geometry ≡ head_of tree → CantBeDrawn (PlainOf tree) f → Tells (Unfit shape tree) f
  told_of_plain f e c = told_of_drawing tree f (formed_by shape tree geometry (sym e) tt tt) (cant (PlainOf tree) (Draws tree) f (λ g d. drawn_by geometry g e d) c)
