-- The table of operators of CQL2 JSON (OGC 21-065r2, Annex B): the name of each, where it may stand, and what its arguments
-- are.
use Rattle.std.specs.Prelude.{ℕ, Bool, true, false, ◌==◌, nat_eq, nat_le, if◌then◌else◌, List, [], ◌∷◌, length, map, Option, Some, None, codes}
use Rattle.std.specs.Cmp.Lexicographic.{pointwise}
use Rattle.sc_expr.specs.declared.expr.CompOp.TheVariants.{Eq, Ne, Lt, Gt, Le, Ge}
use Rattle.sc_cqljson.specs.declared.operator.Operator.{Operator}
use Rattle.sc_cqljson.specs.declared.operator.Operator.TheVariants.{And, Or, Not, Compare, IsNull, Between, In, Like, CaseI, Intersects}

-- what a value has to be in the place where it stands: `listed` is the list that `in` looks through
pub data Role : Type 0 where
  expression : Role
  scalar : Role
  pattern : Role
  shape : Role
  listed : Role

-- what arguments an operator has
pub data Arguments : Type 0 where
  exactly : List Role → Arguments
  two_or_more : Role → Arguments

-- names are exact
unfoldable pub operator_named : List ℕ → Option Operator
operator_named name =
    if pointwise nat_eq name (codes "and") then Some And else
    (if pointwise nat_eq name (codes "or") then Some Or else
    (if pointwise nat_eq name (codes "not") then Some Not else
    (if pointwise nat_eq name (codes "=") then Some (Compare Eq) else
    (if pointwise nat_eq name (codes "<>") then Some (Compare Ne) else
    (if pointwise nat_eq name (codes "<") then Some (Compare Lt) else
    (if pointwise nat_eq name (codes ">") then Some (Compare Gt) else
    (if pointwise nat_eq name (codes "<=") then Some (Compare Le) else
    (if pointwise nat_eq name (codes ">=") then Some (Compare Ge) else
    (if pointwise nat_eq name (codes "isNull") then Some IsNull else
    (if pointwise nat_eq name (codes "between") then Some Between else
    (if pointwise nat_eq name (codes "in") then Some In else
    (if pointwise nat_eq name (codes "like") then Some Like else
    (if pointwise nat_eq name (codes "casei") then Some CaseI else
    (if pointwise nat_eq name (codes "s_intersects") then Some Intersects else None))))))))))))))

-- the arguments of an operator in the place of such a value
abbrev pub arguments : Role → Operator → Arguments
arguments role And = two_or_more expression
arguments role Or = two_or_more expression
arguments role Not = exactly (expression ∷ [])
arguments role (Compare op) = exactly (scalar ∷ scalar ∷ [])
arguments role IsNull = exactly (scalar ∷ [])
arguments role Between = exactly (scalar ∷ scalar ∷ scalar ∷ [])
arguments role In = exactly (scalar ∷ listed ∷ [])
arguments role Like = exactly (scalar ∷ pattern ∷ [])
arguments role CaseI = exactly (role ∷ [])
arguments role Intersects = exactly (shape ∷ shape ∷ [])

abbrev pub is_folding : Operator → Bool
is_folding CaseI = true
is_folding _ = false

abbrev pub is_expression : Operator → Bool
is_expression CaseI = false
is_expression _ = true

-- whether an operator gives such a value: `casei` gives scalars and patterns, and each other one an expression
abbrev pub fits : Role → Operator → Bool
fits expression operator = is_expression operator
fits scalar operator = is_folding operator
fits pattern operator = is_folding operator
fits shape operator = false
fits listed operator = false

abbrev pub is_count : Arguments → ℕ → Bool
is_count (exactly roles) count = count == length roles
is_count (two_or_more role) count = nat_le 2 count

-- how many arguments an operator may have, which is the same in each place
abbrev pub takes : Operator → ℕ → Bool
takes operator = is_count (arguments scalar operator)

-- what each argument has to be
abbrev pub roles_of : {A : Type 0} → Arguments → List A → List Role
roles_of (exactly roles) args = roles
roles_of (two_or_more role) args = map (λ _. role) args
