use Rattle.std.proofs.Common.{◌≡◌, ℕ, ◌+◌, ◌*◌, ◌^◌, Option, ap, subst, ◌∙◌, arith}
use Rattle.sc_decimal.specs.declared.scan.Front.{Front}
use Rattle.sc_decimal.specs.Stands.{Stands, StandsFor}
use Rattle.sc_decimal.proofs.Powers.{unit_fits, stays_wide, wide_by_zeros, digit_stands}
use Rattle.sc_decimal.proofs.scan.with_digit.Goals as goal

pub pow-unit-requires : goal.pow-unit-requires
pow-unit-requires c = unit_fits (c.in-Some.field-0.zeros + 1) (omega arith)

pub returns-in_default : goal.returns-in_default
returns-in_default c = λ digits h. stays_wide digits c.args.d (subst (λ (o : Option Front). Stands o digits) c.in_default.is h)

pub returns-then-zeros-ge34 : goal.returns-then-zeros-ge34
returns-then-zeros-ge34 c = λ digits h.
    let k : StandsFor c.in-Some.field-0 digits = subst (λ (o : Option Front). Stands o digits) c.in-Some.is h in
    wide_by_zeros digits c.args.d c.if-d-eq0.false (omega (arith, k.m_is)) (omega (arith, k.zeros_is))

pub returns : goal.returns
returns c = λ digits h.
    let k : StandsFor c.in-Some.field-0 digits = subst (λ (o : Option Front). Stands o digits) c.in-Some.is h in
    let e : c.in-Some-checked_mul.shifted ≡ digits.m * 10 ^ (digits.zeros + 1) = c.in-Some-checked_mul.ensures.1 ∙ ap (λ (x : ℕ). c.in-Some.field-0.m * x) c.pow-unit.ensures ∙ ap (λ (x : ℕ). x * 10 ^ (c.in-Some.field-0.zeros + 1)) k.m_is ∙ ap (λ (x : ℕ). digits.m * 10 ^ (x + 1)) k.zeros_is in
    digit_stands digits c.args.d c.in-Some-checked_mul.shifted c.if-d-eq0.false c.requires.digit e c.if-shifted-ge10000000000000000000000000000000000.false
