-- A parameter that is given by the text of a JSON value is read as that value is.
use Rattle.std.proofs.Common.{◌≡◌, ◌≢◌, ℕ, List, Result, Ok, Err, refl, sym, subst}
use Rattle.sc_json.specs.declared.tree.Json.{Json}
use Rattle.sc_json.specs.declared.fault.JsonFault.{JsonFault}
use Rattle.sc_json.specs.declared.fault.JsonFault.TheVariants.{Syntax, Duplicate, TooDeep, NumberTooWide, NotUtf8, OutOfMemory}
use Rattle.sc_json.specs.Spells.{Spells}
use Rattle.sc_json.specs.Faults as json
use Rattle.sc_json.proofs.Answered.{fault_excludes}
use Rattle.sc_geom.specs.declared.point.Pt.{Pt}
use Rattle.sc_geom.specs.Shapes.{Shapes}
use Rattle.sc_expr.specs.declared.expr.Expr.{Expr}
use Rattle.sc_query.specs.declared.fault.QueryFault.{QueryFault}
use Rattle.sc_query.specs.declared.filter.Language.TheVariants as languages
use Rattle.sc_query.specs.Given.{in_text, in_tree}
use Rattle.sc_query.specs.Space as space
use Rattle.sc_query.specs.Space.{IntersectsReads}
use Rattle.sc_query.specs.Filters as filters
use Rattle.sc_query.specs.Filters.{FilterReadsIn}
use Rattle.sc_query.specs.Reading.{Answers}

-- a text that has a fault spells no value
pub spells_none : (bytes text : List ℕ) (fault : JsonFault) → bytes ≡ text → json.Answers bytes (Err fault) → fault ≢ OutOfMemory → (tree : Json) → Spells text tree → ⊥
spells_none bytes text fault e h some tree s = by fault h some
  where
    spelled : Spells bytes tree
    spelled = subst (λ (t : List ℕ). Spells t tree) (sym e) s

    by : (f : JsonFault) → json.Answers bytes (Err f) → f ≢ OutOfMemory → ⊥
    by (Syntax at) k n = fault_excludes bytes (Syntax at) tree k spelled
    by (Duplicate at) k n = fault_excludes bytes (Duplicate at) tree k spelled
    by (TooDeep at) k n = fault_excludes bytes (TooDeep at) tree k spelled
    by (NumberTooWide at) k n = fault_excludes bytes (NumberTooWide at) tree k spelled
    by (NotUtf8 at) k n = fault_excludes bytes (NotUtf8 at) tree k spelled
    by OutOfMemory k n = n refl

module _ (bytes text : List ℕ) (tree : Json) (e : bytes ≡ text) (s : Spells bytes tree) where
  same : (t : Json) → t ≡ tree → Spells text t
  same t is = subst (λ (b : List ℕ). Spells b t) e (subst (Spells bytes) (sym is) s)

  shape_of : (result : Result (Shapes Pt) QueryFault) → IntersectsReads (in_tree tree) result → IntersectsReads (in_text text) result
  shape_of _ (space.depicted t g is a) = space.depicted t g (same t is) a
  shape_of _ (space.not_depicted t f is a n) = space.not_depicted t f (same t is) a n
  shape_of _ (space.no_tree none) = absurd (none tree refl)

  pub shape_spelled : (result : Result (Shapes Pt) QueryFault) → Answers (IntersectsReads (in_tree tree)) result → Answers (IntersectsReads (in_text text)) result
  shape_spelled (Ok g) h = shape_of (Ok g) h
  shape_spelled (Err fault) h = λ ne. shape_of (Err fault) (h ne)

  filter_of : (result : Result Expr QueryFault) → FilterReadsIn (in_tree tree) languages.Tree result → FilterReadsIn (in_text text) languages.Tree result
  filter_of _ (filters.of_tree t filter is a) = filters.of_tree t filter (same t is) a
  filter_of _ (filters.fault_of_tree t f is a n) = filters.fault_of_tree t f (same t is) a n
  filter_of _ (filters.no_tree none) = absurd (none tree refl)

  pub filter_spelled : (result : Result Expr QueryFault) → Answers (FilterReadsIn (in_tree tree) languages.Tree) result → Answers (FilterReadsIn (in_text text) languages.Tree) result
  filter_spelled (Ok filter) h = filter_of (Ok filter) h
  filter_spelled (Err fault) h = λ ne. filter_of (Err fault) (h ne)
