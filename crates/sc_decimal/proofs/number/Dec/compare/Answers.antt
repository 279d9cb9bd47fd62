use Rattle.std.proofs.Common.{◌≡◌, ◌*◌, ◌^◌, w32, SFits, Less, Greater, rules}
use Rattle.std.proofs.lemmas.Int.{to_z-of_z}
use Rattle.sc_decimal.specs.declared.number.Dec.TheInside.{Inside}
use Rattle.std.specs.Ordering.{nat_cmp}
use Rattle.sc_decimal.specs.Number.{Number, order_of, dec_cmp, above, least_exponent}
use Rattle.sc_decimal.proofs.Order.{both_positive, both_negative, only_first, only_second, seen_as}
use Rattle.sc_decimal.proofs.number.Dec.compare.Goals as goal

abbrev number : Inside → Number
number d = record { neg = d.neg; m = d.m; e = d.e }

mixed_false_true : (c : goal.In-false-true) → (Greater ≡ order_of c.args.self.now c.args.other.now) × (Greater ≡ dec_cmp c.args.self.now c.args.other.now)
mixed_false_true c =
    seen_as (number c.self.inside) _ (number c.other.inside) _ Greater c.self.view_is c.other.view_is
    (only_second (number c.self.inside) (number c.other.inside) c.self.invariant c.other.invariant c.in-false-true.is-0 c.in-false-true.is-1)

pub returns-in-false-true-clause-order : goal.returns-in-false-true-clause-order
returns-in-false-true-clause-order c = (mixed_false_true c).0

pub returns-in-false-true-clause-scaled : goal.returns-in-false-true-clause-scaled
returns-in-false-true-clause-scaled c = (mixed_false_true c).1

mixed_true_false : (c : goal.In-true-false) → (Less ≡ order_of c.args.self.now c.args.other.now) × (Less ≡ dec_cmp c.args.self.now c.args.other.now)
mixed_true_false c =
    seen_as (number c.self.inside) _ (number c.other.inside) _ Less c.self.view_is c.other.view_is
    (only_first (number c.self.inside) (number c.other.inside) c.self.invariant c.other.invariant c.in-true-false.is-0 c.in-true-false.is-1)

pub returns-in-true-false-clause-order : goal.returns-in-true-false-clause-order
returns-in-true-false-clause-order c = (mixed_true_false c).0

pub returns-in-true-false-clause-scaled : goal.returns-in-true-false-clause-scaled
returns-in-true-false-clause-scaled c = (mixed_true_false c).1

same_true_true : (c : goal.After-compare_magnitudes) → (c.compare_magnitudes.result ≡ order_of c.args.self.now c.args.other.now) × (c.compare_magnitudes.result ≡ dec_cmp c.args.self.now c.args.other.now)
same_true_true c =
    let first : SFits w32 c.other.inside.e = search rules in
    let second : SFits w32 c.self.inside.e = search rules in
    let is : c.compare_magnitudes.result ≡ nat_cmp (c.other.inside.m * 10 ^ above c.other.inside.e least_exponent) (c.self.inside.m * 10 ^ above c.self.inside.e least_exponent) =
    simp to_z-of_z at c.compare_magnitudes.ensures in
    seen_as (number c.self.inside) _ (number c.other.inside) _ c.compare_magnitudes.result c.self.view_is c.other.view_is
    (both_negative (number c.self.inside) (number c.other.inside) c.compare_magnitudes.result c.self.invariant c.other.invariant c.in-true-true.is-0 c.in-true-true.is-1 is)

pub returns-in-true-true-clause-order : goal.returns-in-true-true-clause-order
returns-in-true-true-clause-order c = (same_true_true c).0

pub returns-in-true-true-clause-scaled : goal.returns-in-true-true-clause-scaled
returns-in-true-true-clause-scaled c = (same_true_true c).1

same_false_false : (c : goal.After-compare_magnitudes-in-false-false) → (c.compare_magnitudes-in-false-false.result ≡ order_of c.args.self.now c.args.other.now) × (c.compare_magnitudes-in-false-false.result ≡ dec_cmp c.args.self.now c.args.other.now)
same_false_false c =
    let first : SFits w32 c.self.inside.e = search rules in
    let second : SFits w32 c.other.inside.e = search rules in
    let is : c.compare_magnitudes-in-false-false.result ≡ nat_cmp (c.self.inside.m * 10 ^ above c.self.inside.e least_exponent) (c.other.inside.m * 10 ^ above c.other.inside.e least_exponent) =
    simp to_z-of_z at c.compare_magnitudes-in-false-false.ensures in
    seen_as (number c.self.inside) _ (number c.other.inside) _ c.compare_magnitudes-in-false-false.result c.self.view_is c.other.view_is
    (both_positive (number c.self.inside) (number c.other.inside) c.compare_magnitudes-in-false-false.result c.self.invariant c.other.invariant c.in-false-false.is-0 c.in-false-false.is-1 is)

pub returns-in-false-false-clause-order : goal.returns-in-false-false-clause-order
returns-in-false-false-clause-order c = (same_false_false c).0

pub returns-in-false-false-clause-scaled : goal.returns-in-false-false-clause-scaled
returns-in-false-false-clause-scaled c = (same_false_false c).1
