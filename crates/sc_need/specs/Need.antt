-- What a search needs of an item.
use Rattle.std.specs.Prelude.{ℕ, ℤ, Bool, true, false, ◌&&◌, List, [], ◌∷◌, ◌++◌, map, filter, Option, Some, None, option_map, if◌then◌else◌}
use Rattle.std.specs.Int.{int_min, int_max}
use Rattle.sc_geom.specs.declared.point.Pt.{Pt}
use Rattle.sc_geom.specs.Shapes.{Shapes}
use Rattle.sc_geom.specs.Rectangle.{Rectangle, smallest}
use Rattle.sc_geom.specs.declared.rects.Rects.{Rects}
use Rattle.sc_geom.specs.Rects.{rectangles_in}
use Rattle.sc_time.specs.Ends.{Ends}
use Rattle.sc_sort.specs.Named.{Named, Id, Collection, Geometry, Time, Member, named, is_time as asks_time}
use Rattle.sc_expr.specs.declared.scalar.Scalar.{Scalar}
use Rattle.sc_expr.specs.declared.scalar.Scalar.TheOpen as inner
use Rattle.sc_expr.specs.declared.scalar.Scalar.TheOpen.{Scalar-F}
use Rattle.sc_expr.specs.declared.scalar.Scalar.TheViews.{out-Scalar}
use Rattle.sc_expr.specs.declared.scalar.Shape.{Shape}
use Rattle.sc_expr.specs.declared.scalar.Shape.TheVariants as shapes
use Rattle.sc_expr.specs.declared.expr.CompOp.{CompOp}
use Rattle.sc_expr.specs.declared.expr.CompOp.TheVariants.{Eq, Ne, Lt, Gt, Le, Ge}
use Rattle.sc_expr.specs.declared.expr.Expr.{Expr}
use Rattle.sc_expr.specs.declared.expr.Expr.TheOpen as outer
use Rattle.sc_expr.specs.declared.expr.Expr.TheOpen.{Expr-F}
use Rattle.sc_expr.specs.declared.expr.Expr.TheFolds.{fold-Expr}
use Rattle.sc_expr.specs.declared.select.Select.{Select}
use Rattle.sc_eval.specs.Comparison.{instant_of}
use Rattle.sc_eval.specs.Selection.{is_one_of}
use Rattle.sc_need.specs.declared.need.Need.{Need}
use Rattle.sc_need.specs.declared.need.Limits.{Limits}

abbrev pub no_limits : Limits
no_limits = record { low = None; high = None }

abbrev pub free : Need
free = record { collections = None; starts = no_limits; ends = no_limits; places = [] }

abbrev pub of_starts : Limits → Need
of_starts limits = record { collections = None; starts = limits; ends = no_limits; places = [] }

abbrev pub of_collections : List (List ℕ) → Need
of_collections names = record { collections = Some names; starts = no_limits; ends = no_limits; places = [] }

abbrev pub of_places : List Rectangle → Need
of_places boxes = record { collections = None; starts = no_limits; ends = no_limits; places = boxes ∷ [] }

-- ---- scalars

abbrev pub moment_in : Scalar-F Scalar → Option ℤ
moment_in (inner.Prop name) = None
moment_in (inner.Text t) = instant_of t
moment_in (inner.Number n) = None
moment_in (inner.Truth b) = None
moment_in (inner.Moment at) = Some at
moment_in (inner.Folded s) = None

-- the instant that a literal is
unfoldable pub moment_of : Scalar → Option ℤ
moment_of s = moment_in (out-Scalar s)

abbrev pub text_in : Scalar-F Scalar → Option (List ℕ)
text_in (inner.Prop name) = None
text_in (inner.Text t) = Some t
text_in (inner.Number n) = None
text_in (inner.Truth b) = None
text_in (inner.Moment at) = None
text_in (inner.Folded s) = None

-- the text that a literal is
unfoldable pub text_of : Scalar → Option (List ℕ)
text_of s = text_in (out-Scalar s)

abbrev pub name_in : Scalar-F Scalar → Option (List ℕ)
name_in (inner.Prop name) = Some name
name_in (inner.Text t) = None
name_in (inner.Number n) = None
name_in (inner.Truth b) = None
name_in (inner.Moment at) = None
name_in (inner.Folded s) = None

abbrev pub is_time_name : Option (List ℕ) → Bool
is_time_name None = false
is_time_name (Some name) = asks_time (named name)

abbrev pub asks_collection : Named → Bool
asks_collection Collection = true
asks_collection Id = false
asks_collection Geometry = false
asks_collection Time = false
asks_collection (Member name) = false

abbrev pub is_collection_name : Option (List ℕ) → Bool
is_collection_name None = false
is_collection_name (Some name) = asks_collection (named name)

-- the scalar is the item's time, or its collection
unfoldable pub is_time : Scalar → Bool
is_time s = is_time_name (name_in (out-Scalar s))

unfoldable pub is_collection : Scalar → Bool
is_collection s = is_collection_name (name_in (out-Scalar s))

-- ---- comparisons

-- the limits on what stands left of a moment
abbrev pub limits_by : CompOp → ℤ → Limits
limits_by Eq at = record { low = Some at; high = Some at }
limits_by Ne at = no_limits
limits_by Lt at = record { low = None; high = Some at }
limits_by Le at = record { low = None; high = Some at }
limits_by Gt at = record { low = Some at; high = None }
limits_by Ge at = record { low = Some at; high = None }

-- the same comparison with its sides exchanged
abbrev pub turned : CompOp → CompOp
turned Eq = Eq
turned Ne = Ne
turned Lt = Gt
turned Gt = Lt
turned Le = Ge
turned Ge = Le

abbrev pub is_equal : CompOp → Bool
is_equal Eq = true
is_equal Ne = false
is_equal Lt = false
is_equal Gt = false
is_equal Le = false
is_equal Ge = false

-- the need of a time against a moment, or of a collection against a name
unfoldable pub against : CompOp → Scalar → Scalar → Option Need
against op left right =
    if is_time left then option_map (λ at. of_starts (limits_by op at)) (moment_of right)
    else (if is_equal op && is_collection left then option_map (λ name. of_collections (name ∷ [])) (text_of right) else None)

abbrev pub or_else : Option Need → Option Need → Need
or_else (Some n) m = n
or_else None (Some m) = m
or_else None None = free

abbrev pub compare_need : CompOp → Scalar → Scalar → Need
compare_need op left right = or_else (against op left right) (against (turned op) right left)

abbrev pub range_need : Option ℤ → Option ℤ → Need
range_need None high = free
range_need (Some low) None = free
range_need (Some low) (Some high) = of_starts (record { low = Some low; high = Some high })

abbrev pub between_need : Scalar → Scalar → Scalar → Need
between_need operand low high = if is_time operand then range_need (moment_of low) (moment_of high) else free

-- the texts that all of these are
abbrev pub onto : Option (List ℕ) → Option (List (List ℕ)) → Option (List (List ℕ))
onto None names = None
onto (Some t) None = None
onto (Some t) (Some names) = Some (t ∷ names)

abbrev pub texts_of : List Scalar → Option (List (List ℕ))
texts_of [] = Some []
texts_of (s ∷ ss) = onto (text_of s) (texts_of ss)

abbrev pub names_need : Option (List (List ℕ)) → Need
names_need None = free
names_need (Some names) = of_collections names

abbrev pub among_need : Scalar → List Scalar → Need
among_need operand listed = if is_collection operand then names_need (texts_of listed) else free

-- ---- shapes

-- the smallest box of a geometry
abbrev pub of_geometry : Shapes Pt → Need
of_geometry g = of_places (smallest g ∷ [])

-- of what has to meet a geometry
abbrev pub need_named : Named → Shapes Pt → Need
need_named Geometry g = of_geometry g
need_named Id g = free
need_named Collection g = free
need_named Time g = free
need_named (Member name) g = free

abbrev pub meets_need : Shape → Shape → Need
meets_need (shapes.Prop name) (shapes.Prop other) = free
meets_need (shapes.Prop name) (shapes.Geom g) = need_named (named name) g
meets_need (shapes.Geom g) (shapes.Prop name) = need_named (named name) g
meets_need (shapes.Geom g) (shapes.Geom h) = free

-- ---- needs together

abbrev pub greater : Option ℤ → Option ℤ → Option ℤ
greater None b = b
greater (Some a) None = Some a
greater (Some a) (Some b) = Some (int_max a b)

abbrev pub lesser : Option ℤ → Option ℤ → Option ℤ
lesser None b = b
lesser (Some a) None = Some a
lesser (Some a) (Some b) = Some (int_min a b)

abbrev pub both_limits : Limits → Limits → Limits
both_limits a b = record { low = greater a.low b.low; high = lesser a.high b.high }

abbrev pub both_names : Option (List (List ℕ)) → Option (List (List ℕ)) → Option (List (List ℕ))
both_names None b = b
both_names (Some a) None = Some a
both_names (Some a) (Some b) = Some (filter (is_one_of b) a)

abbrev pub both : Need → Need → Need
both a b = record {
  collections = both_names a.collections b.collections;
  starts = both_limits a.starts b.starts;
  ends = both_limits a.ends b.ends;
  places = a.places ++ b.places;
}

-- each of the needs, one after the other
abbrev pub joined : Need → List Need → Need
joined need [] = need
joined need (n ∷ ns) = joined (both need n) ns

-- where each has to be met
abbrev pub all_needs : List Need → Need
all_needs needs = joined free needs

abbrev pub wider : (ℤ → ℤ → ℤ) → Option ℤ → Option ℤ → Option ℤ
wider pick None b = None
wider pick (Some a) None = None
wider pick (Some a) (Some b) = Some (pick a b)

abbrev pub either_limits : Limits → Limits → Limits
either_limits a b = record { low = wider int_min a.low b.low; high = wider int_max a.high b.high }

abbrev pub either_names : Option (List (List ℕ)) → Option (List (List ℕ)) → Option (List (List ℕ))
either_names None b = None
either_names (Some a) None = None
either_names (Some a) (Some b) = Some (a ++ b)

abbrev pub either : Need → Need → Need
either a b = record {
  collections = either_names a.collections b.collections;
  starts = either_limits a.starts b.starts;
  ends = either_limits a.ends b.ends;
  places = [];
}

-- one of the needs, one after the other
abbrev pub merged : Need → List Need → Need
merged need [] = need
merged need (n ∷ ns) = merged (either need n) ns

abbrev pub without_places : Need → Need
without_places need = record { collections = need.collections; starts = need.starts; ends = need.ends; places = [] }

-- where one of them has to be met
abbrev pub any_need : List Need → Need
any_need [] = free
any_need (n ∷ ns) = merged (without_places n) ns

-- ---- expressions and selects

abbrev pub need_level : Expr-F Need → Need
need_level (outer.Const b) = free
need_level (outer.And needs) = all_needs needs
need_level (outer.Or needs) = any_need needs
need_level (outer.Not need) = free
need_level (outer.Compare op left right) = compare_need op left right
need_level (outer.IsNull operand) = free
need_level (outer.Between operand low high) = between_need operand low high
need_level (outer.Among operand listed) = among_need operand listed
need_level (outer.Like operand pattern) = free
need_level (outer.Meets left right) = meets_need left right

-- what an expression needs of an item of which it is true
abbrev pub need_in : Expr → Need
need_in = fold-Expr Need need_level

abbrev pub need_of_names : Option (List (List ℕ)) → Need
need_of_names None = free
need_of_names (Some names) = of_collections names

abbrev pub need_of_time : Option Ends → Need
need_of_time None = free
need_of_time (Some range) = record {
  collections = None;
  starts = record { low = None; high = range.to };
  ends = record { low = range.from; high = None };
  places = [];
}

abbrev pub need_of_filter : Option Expr → Need
need_of_filter None = free
need_of_filter (Some expr) = need_in expr

abbrev pub need_of_rects : Option Rects → Need
need_of_rects None = free
need_of_rects (Some rects) = of_places (rectangles_in rects)

abbrev pub need_of_shape : Option (Shapes Pt) → Need
need_of_shape None = free
need_of_shape (Some g) = of_geometry g

-- what a search needs of an item that it selects
unfoldable pub need_of : Select → Need
need_of select =
    all_needs
    (need_of_names select.collections ∷ need_of_time select.time ∷ need_of_rects select.rects ∷ need_of_shape select.shape ∷ need_of_filter select.filter ∷ [])
