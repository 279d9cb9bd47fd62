-- A tree has one answer.
use Rattle.std.proofs.Common.{◌≡◌, ◌⊎◌, ℕ, refl, sym, ap, ◌∙◌, arith, inl, inr}
use Rattle.sc_json.specs.declared.tree.Json.{Json}
use Rattle.sc_expr.specs.declared.expr.Expr.{Expr}
use Rattle.sc_expr.specs.declared.fault.CqlFault.{CqlFault}
use Rattle.sc_expr.specs.declared.fault.CqlFault.TheVariants.{Syntax, TooDeep, TooManyNodes, BadLiteral, OutOfMemory}
use Rattle.sc_expr.specs.Measure.{depth, nodes}
use Rattle.sc_expr.specs.Filter.{in_bits}
use Rattle.sc_cqljson.specs.Operators.{expression}
use Rattle.sc_cqljson.specs.Forms.{Unfitness, misplaced, unreadable}
use Rattle.sc_cqljson.specs.Spells.{Spells}
use Rattle.sc_cqljson.specs.Filters.{IsCqlTree, IsUnfitAt, IsTooDeep, HasTooManyNodes, IsTreeFault}
use Rattle.sc_cqljson.proofs.Unique.{one_expr}
use Rattle.sc_cqljson.proofs.Excluding.{expr_fits, one_unfit}

pub one_filter : (tree : Json) (a b : Expr) → IsCqlTree tree a → IsCqlTree tree b → a ≡ b
one_filter tree a b x y = one_expr tree tree a b refl x.spelled y.spelled

-- a filter neither nests too deep nor has too many nodes
limits : (a b : Expr) → a ≡ b → (depth a ≡ depth b) × (nodes a ≡ nodes b)
limits a b e = (ap depth e, ap nodes e)

pub no_fault : (tree : Json) (a : Expr) (f : CqlFault) → IsCqlTree tree a → IsTreeFault f tree → f ≡ OutOfMemory
no_fault tree a (Syntax at) x y = absurd (expr_fits tree a x.spelled y.number misplaced y.unfit)
no_fault tree a (BadLiteral at) x y = absurd (expr_fits tree a x.spelled y.number unreadable y.unfit)
no_fault tree a TooDeep x y =
    let e = limits a y.expr (one_expr tree tree a y.expr refl x.spelled y.spelled) in
    absurd (omega (arith, e.0, x.checked.shallow, y.deep))
no_fault tree a TooManyNodes x y =
    let e = limits a y.expr (one_expr tree tree a y.expr refl x.spelled y.spelled) in
    absurd (omega (arith, e.1, x.checked.few, y.many))
no_fault tree a OutOfMemory x y = refl

apart : misplaced ≡ unreadable → ⊥
apart e = cc

never : (tree : Json) (how : Unfitness) (at : ℕ) (e : Expr) → IsUnfitAt tree how at → Spells tree e → ⊥
never tree how at e x s = expr_fits tree e s x.number how x.unfit

both : (tree : Json) → IsTooDeep tree → HasTooManyNodes tree → ⊥
both tree x y =
    let e = limits x.expr y.expr (one_expr tree tree x.expr y.expr refl x.spelled y.spelled) in
    omega (arith, e.0, x.deep, y.shallow)

pub one_fault : (tree : Json) (a b : CqlFault) → IsTreeFault a tree → IsTreeFault b tree → (a ≡ b) ⊎ (a ≡ OutOfMemory) ⊎ (b ≡ OutOfMemory)
one_fault tree (Syntax at) (Syntax at') x y =
    let n = (one_unfit expression tree x.number y.number misplaced misplaced x.unfit y.unfit).0 in
    let e : at ≡ at' = x.told ∙ ap (in_bits 64) n ∙ sym y.told in
    inl (ap Syntax e)
one_fault tree (Syntax at) (BadLiteral at') x y = absurd (apart (one_unfit expression tree x.number y.number misplaced unreadable x.unfit y.unfit).1)
one_fault tree (BadLiteral at) (Syntax at') x y = absurd (apart (sym (one_unfit expression tree x.number y.number unreadable misplaced x.unfit y.unfit).1))
one_fault tree (BadLiteral at) (BadLiteral at') x y =
    let n = (one_unfit expression tree x.number y.number unreadable unreadable x.unfit y.unfit).0 in
    let e : at ≡ at' = x.told ∙ ap (in_bits 64) n ∙ sym y.told in
    inl (ap BadLiteral e)
one_fault tree (Syntax at) TooDeep x y = absurd (never tree misplaced at y.expr x y.spelled)
one_fault tree (Syntax at) TooManyNodes x y = absurd (never tree misplaced at y.expr x y.spelled)
one_fault tree (BadLiteral at) TooDeep x y = absurd (never tree unreadable at y.expr x y.spelled)
one_fault tree (BadLiteral at) TooManyNodes x y = absurd (never tree unreadable at y.expr x y.spelled)
one_fault tree TooDeep (Syntax at) x y = absurd (never tree misplaced at x.expr y x.spelled)
one_fault tree TooManyNodes (Syntax at) x y = absurd (never tree misplaced at x.expr y x.spelled)
one_fault tree TooDeep (BadLiteral at) x y = absurd (never tree unreadable at x.expr y x.spelled)
one_fault tree TooManyNodes (BadLiteral at) x y = absurd (never tree unreadable at x.expr y x.spelled)
one_fault tree TooDeep TooDeep x y = inl refl
one_fault tree TooDeep TooManyNodes x y = absurd (both tree x y)
one_fault tree TooManyNodes TooDeep x y = absurd (both tree y x)
one_fault tree TooManyNodes TooManyNodes x y = inl refl
one_fault tree OutOfMemory b x y = inr (inl refl)
one_fault tree a OutOfMemory x y = inr (inr refl)
