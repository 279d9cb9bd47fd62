-- How two values compare, and truth in three values (OGC 21-065 §6.3.1).
use Rattle.std.specs.Prelude.{ℕ, ℤ, Bool, true, false, List, [], ◌∷◌, Option, Some, None}
use Rattle.std.specs.Result.{result_ok}
use Rattle.std.specs.declared.cmp.Ordering.{Ordering}
use Rattle.std.specs.Ordering.{int_cmp, bool_cmp, is_lt, is_eq, is_gt, is_le, is_ge, is_ne}
use Rattle.sc_base.specs.Text.{text_order}
use Rattle.sc_decimal.specs.Number.{dec_cmp}
use Rattle.sc_time.specs.Reading.{instant_reading}
use Rattle.sc_expr.specs.declared.expr.CompOp.{CompOp}
use Rattle.sc_expr.specs.declared.expr.CompOp.TheVariants.{Eq, Ne, Lt, Gt, Le, Ge}
use Rattle.sc_expr.specs.declared.expr.Truth3.{Truth3}
use Rattle.sc_expr.specs.declared.expr.Truth3.TheVariants.{True, False, Unknown}
use Rattle.sc_eval.specs.Property.{PropertyValue, text, number, truth, moment}

-- the instant that a text is, if it is one
abbrev pub instant_of : List ℕ → Option ℤ
instant_of t = result_ok (instant_reading t)

abbrev pub against : ℤ → Option ℤ → Option Ordering
against at None = None
against at (Some b) = Some (int_cmp at b)

abbrev pub read_against : Option ℤ → ℤ → Option Ordering
read_against None at = None
read_against (Some a) at = Some (int_cmp a at)

-- the order of two values of one kind, or of a moment and a text that is one; no other pair has an order
unfoldable pub order_of : PropertyValue → PropertyValue → Option Ordering
order_of (number a) (number b) = Some (dec_cmp a b)
order_of (text a) (text b) = Some (text_order a b)
order_of (truth a) (truth b) = Some (bool_cmp a b)
order_of (moment a) (moment b) = Some (int_cmp a b)
order_of (moment a) (text b) = against a (instant_of b)
order_of (text a) (moment b) = read_against (instant_of a) b
order_of a b = None

abbrev pub holds : CompOp → Ordering → Bool
holds Eq o = is_eq o
holds Ne o = is_ne o
holds Lt o = is_lt o
holds Gt o = is_gt o
holds Le o = is_le o
holds Ge o = is_ge o

abbrev pub known : Bool → Truth3
known true = True
known false = False

abbrev pub truth_of : CompOp → Option Ordering → Truth3
truth_of op None = Unknown
truth_of op (Some o) = known (holds op o)

abbrev pub compared : CompOp → PropertyValue → PropertyValue → Truth3
compared op a b = truth_of op (order_of a b)

abbrev pub not3 : Truth3 → Truth3
not3 True = False
not3 False = True
not3 Unknown = Unknown

abbrev pub and3 : Truth3 → Truth3 → Truth3
and3 True t = t
and3 False t = False
and3 Unknown False = False
and3 Unknown True = Unknown
and3 Unknown Unknown = Unknown

abbrev pub or3 : Truth3 → Truth3 → Truth3
or3 False t = t
or3 True t = True
or3 Unknown True = True
or3 Unknown False = Unknown
or3 Unknown Unknown = Unknown

-- what no member decides: the truth of none of them, or unknown where one was
abbrev pub if_known : Truth3 → Bool → Truth3
if_known t false = t
if_known t true = Unknown

-- false where one is false, else unknown where one is unknown, else true
abbrev pub all3 : List Truth3 → Truth3
all3 [] = True
all3 (t ∷ ts) = and3 t (all3 ts)

-- true where one is true, else unknown where one is unknown, else false
abbrev pub any3 : List Truth3 → Truth3
any3 [] = False
any3 (t ∷ ts) = or3 t (any3 ts)
