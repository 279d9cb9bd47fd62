use Rattle.std.proofs.Common.{arith, ◌≡◌, true, get_or, sym, ◌∙◌}
use Rattle.std.proofs.lemmas.List.Sums.{prefix_len-drop_yes}
use Rattle.std.specs.Char.{is_ascii_digit}
use Rattle.sc_time.proofs.Fractions.{one_more_below, room_for_more, scaled_below, digit_below, number_more}
use Rattle.sc_time.proofs.form.fraction_digits_of.Goals as goal

pub overflow_mul-value : goal.overflow_mul-value
overflow_mul-value c =
    let room = room_for_more c.digits.value c.digits.count 0 c.digits.invariant.small c.digits.invariant.few c.if-count-eq9.false (omega arith) in
    omega arith

pub overflow_add-value : goal.overflow_add-value
overflow_add-value c =
    let is : is_ascii_digit (get_or c.args.text.now c.digits.count 0) ≡ true = sym c.is_ascii_digit.ensures.value ∙ c.if-is_ascii_digit.true in
    let digit = digit_below (get_or c.args.text.now c.digits.count 0) is in
    let room = room_for_more c.digits.value c.digits.count _ c.digits.invariant.small c.digits.invariant.few c.if-count-eq9.false digit.1 in
    omega arith

pub digits-preserved : goal.digits-preserved
digits-preserved c =
    let is : is_ascii_digit (get_or c.args.text.now c.digits.count 0) ≡ true = sym c.is_ascii_digit.ensures.value ∙ c.if-is_ascii_digit.true in
    let digit = digit_below (get_or c.args.text.now c.digits.count 0) is in
    record {
      few = omega arith;
      within = omega arith;
      passed = omega (arith, prefix_len-drop_yes is_ascii_digit c.args.text.now c.digits.count 0 (omega arith) is, c.digits.invariant.passed);
      small = one_more_below c.digits.value c.digits.count _ c.digits.invariant.small digit.1;
      number = number_more c.args.text.now c.digits.count c.digits.value (omega arith) is c.digits.invariant.number;
    }

pub overflow_mul-result : goal.overflow_mul-result
overflow_mul-result c =
    let below = scaled_below c.digits.value c.digits.count c.power_of_ten.result c.digits.invariant.small c.digits.invariant.few c.power_of_ten.ensures.value in
    omega arith

pub returns-clause-bound : goal.returns-clause-bound
returns-clause-bound c = scaled_below c.digits.value c.digits.count c.power_of_ten.result c.digits.invariant.small c.digits.invariant.few c.power_of_ten.ensures.value
