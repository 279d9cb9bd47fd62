-- What a reader of CQL2 JSON tells of a value that doesn't fit: its number, which stays at the greatest of its type.
use Rattle.std.specs.Prelude.{◌≡◌, ℕ, ◌+◌, true, List, map, sum}
use Rattle.sc_json.specs.declared.tree.Json.{Json}
use Rattle.sc_expr.specs.declared.fault.CqlFault.{CqlFault}
use Rattle.sc_expr.specs.declared.fault.CqlFault.TheVariants.{Syntax, TooDeep, TooManyNodes, BadLiteral, OutOfMemory}
use Rattle.sc_expr.specs.Filter.{in_bits}
use Rattle.sc_json.specs.Member.{member_value}
use Rattle.sc_geom.specs.declared.point.Pt.{Pt}
use Rattle.sc_geom.specs.declared.fault.GeomFault.{GeomFault}
use Rattle.sc_geom.specs.declared.fault.GeomFault.TheVariants as geometries
use Rattle.sc_geom.specs.declared.fault.GeomFault.TheVariants.{BadShape, OpenRing, OutOfWorld, TooManyPositions}
use Rattle.sc_geom.specs.Shapes.{Shapes}
use Rattle.sc_json.specs.Views.{values}
use Rattle.sc_cqljson.specs.declared.operator.Operator.{Operator}
use Rattle.sc_cqljson.specs.declared.operator.Operator.TheVariants.{CaseI}
use Rattle.sc_cqljson.specs.Words.{args_name}
use Rattle.sc_cqljson.specs.Operators.{Role, fits}
use Rattle.sc_cqljson.specs.Heads.{known}
use Rattle.sc_cqljson.specs.Forms.{Unfitness, misplaced, unreadable, unfit, args_form, call_form}

-- the fault is of a number and a kind for which this holds; want of memory is free
abbrev pub Tells : (ℕ → Unfitness → Type 0) → CqlFault → Type 0
Tells P (Syntax at) = (number : ℕ) × (at ≡ in_bits 64 number) × P number misplaced
Tells P (BadLiteral at) = (number : ℕ) × (at ≡ in_bits 64 number) × P number unreadable
Tells P TooDeep = ⊥
Tells P TooManyNodes = ⊥
Tells P OutOfMemory = Unit {0}

-- the same so many values later
abbrev pub Later : ℕ → (ℕ → Unfitness → Type 0) → ℕ → Unfitness → Type 0
Later count P number how = (inner : ℕ) × (number ≡ count + inner) × P inner how

abbrev pub behind : ℕ → CqlFault → CqlFault
behind count (Syntax at) = Syntax (in_bits 64 (at + count))
behind count (BadLiteral at) = BadLiteral (in_bits 64 (at + count))
behind count TooDeep = TooDeep
behind count TooManyNodes = TooManyNodes
behind count OutOfMemory = OutOfMemory

-- the number of an element that has these before it, where the list has 0
abbrev pub number_behind : List Json → ℕ
number_behind before = 1 + sum (map values before)

-- the object has no such arguments, whatever its place
abbrev pub LacksArguments : Json → Operator → CqlFault → Type 0
LacksArguments tree operator fault =
    (number : ℕ) × (fault ≡ Syntax (in_bits 64 number)) × ((role : Role) → args_form role operator tree (member_value tree args_name) ≡ unfit number misplaced)

-- nothing is drawn, and the literal is told to be unreadable; want of memory is free
abbrev pub CantBeDrawn : (Shapes Pt → Type 0) → CqlFault → Type 0
CantBeDrawn P (Syntax at) = ⊥
CantBeDrawn P (BadLiteral at) = (at ≡ 0) × ((drawn : Shapes Pt) → P drawn → ⊥)
CantBeDrawn P TooDeep = ⊥
CantBeDrawn P TooManyNodes = ⊥
CantBeDrawn P OutOfMemory = Unit {0}

-- the object folds nothing, in the place of a scalar or a pattern
abbrev pub CantFold : Json → Json → CqlFault → Type 0
CantFold tree op fault =
    (number : ℕ) × (fault ≡ Syntax (in_bits 64 number)) × ((role : Role) → fits role CaseI ≡ true → call_form role tree (known op) ≡ unfit number misplaced)

-- what is told of a geometry that has a fault
abbrev pub fault_by : GeomFault → CqlFault
fault_by BadShape = BadLiteral 0
fault_by OpenRing = BadLiteral 0
fault_by OutOfWorld = BadLiteral 0
fault_by (TooManyPositions count) = BadLiteral 0
fault_by geometries.OutOfMemory = OutOfMemory
