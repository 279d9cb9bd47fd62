-- The first value of a tree that doesn't fit in its place in CQL2 JSON (OGC 21-065r2, Annex B), by its number: the tree
-- itself has 0, and each value comes before those in it, in the order of the text.
use Rattle.std.specs.Prelude.{◌≡◌, ℕ, ◌+◌, List, ◌∷◌}
use Rattle.sc_json.specs.declared.tree.Json.{Json}
use Rattle.sc_json.specs.Views.{values}
use Rattle.sc_geom.specs.declared.point.Pt.{Pt}
use Rattle.sc_geom.specs.Shapes.{Shapes}
use Rattle.sc_expr.specs.declared.scalar.Scalar.{Scalar}
use Rattle.sc_expr.specs.declared.scalar.Pattern.{Pattern}
use Rattle.sc_expr.specs.declared.scalar.Shape.{Shape}
use Rattle.sc_expr.specs.declared.expr.Expr.{Expr}
use Rattle.sc_cqljson.specs.Operators.{Role, expression, scalar, pattern, shape, listed}
use Rattle.sc_cqljson.specs.Drawn.{Draws}
use Rattle.sc_cqljson.specs.Spells.{SpellsScalar, SpellsList, SpellsPattern, SpellsShape, Spells}
use Rattle.sc_cqljson.specs.Forms.{Unfitness, unreadable, unfit, within, drawing, form_of}

abbrev pub Fits : Role → Json → Type 0
Fits expression tree = (expr : Expr) × Spells tree expr
Fits scalar tree = (value : Scalar) × SpellsScalar tree value
Fits pattern tree = (value : Pattern) × SpellsPattern tree value
Fits shape tree = (value : Shape) × SpellsShape tree value
Fits listed tree = (list : List Scalar) × SpellsList tree list

mutual
  pub data Unfit : Role → Json → ℕ → Unfitness → Type 0 where
    itself : (role : Role) (tree : Json) (at : ℕ) (how : Unfitness) → form_of role tree ≡ unfit at how → Unfit role tree at how
    -- a geometry that can't be read
    undrawn : (role : Role) (tree : Json) → form_of role tree ≡ drawing → ((g : Shapes Pt) → Draws tree g → ⊥) → Unfit role tree 0 unreadable
    -- an argument or an element
    inner : (role : Role) (tree : Json) (roles : List Role) (args : List Json) (place at : ℕ) (how : Unfitness) →
        form_of role tree ≡ within roles args place → UnfitAmong roles args at how → Unfit role tree (place + at) how

  -- the first of these values that doesn't fit, by its number where the list of them has 0
  pub data UnfitAmong : List Role → List Json → ℕ → Unfitness → Type 0 where
    here : (role : Role) (roles : List Role) (tree : Json) (trees : List Json) (at : ℕ) (how : Unfitness) → Unfit role tree at how → UnfitAmong (role ∷ roles) (tree ∷ trees) (1 + at) how
    later : (role : Role) (roles : List Role) (tree : Json) (trees : List Json) (at : ℕ) (how : Unfitness) → Fits role tree → UnfitAmong roles trees at how →
        UnfitAmong (role ∷ roles) (tree ∷ trees) (values tree + at) how
