use Rattle.std.proofs.Common.{◌≢◌, ◌<◌, ◌≤◌, ◌^◌, ◌∙◌, length, Some, arith, ap, sym, w64, rules}
use Rattle.std.proofs.lemmas.Int.{to_z_pos}
use Rattle.ov_value.specs.declared.value.Value.TheVariants.{Int}
use Rattle.ov_csv.proofs.Digits.{digits_small, digits_all}
use Rattle.ov_csv.proofs.fields.read_digits.Goals as goal

-- at most 17 digits stand before one of 18
pub overflow_mul-number : goal.overflow_mul-number
overflow_mul-number c =
    let small : c.loop-digit.number < 10 ^ 18 = digits_small c.loop-digit.digit-index c.loop-digit.number c.loop-digit.invariant.small (omega (arith, c.loop-digit-test.true, c.if-digits-gt18.false)) in
    omega (arith, small)

pub overflow_add-number : goal.overflow_add-number
overflow_add-number c =
    let small : c.loop-digit.number < 10 ^ 18 = digits_small c.loop-digit.digit-index c.loop-digit.number c.loop-digit.invariant.small (omega (arith, c.loop-digit-test.true, c.if-digits-gt18.false)) in
    omega (arith, small, c.from.ensures, c.if-value-gt9.false)

pub overflow_cast-result : goal.overflow_cast-result
overflow_cast-result c =
    let few : c.loop-digit.digit-index ≤ 18 = omega (arith, c.loop-digit.auto.digit-index-end, c.if-digits-gt18.false) in
    let small : c.loop-digit.number < 10 ^ 18 = digits_small c.loop-digit.digit-index c.loop-digit.number c.loop-digit.invariant.small few in
    record { sfits = omega (arith, small) }

pub returns : goal.returns
returns c =
    let some : length c.args.digits.now ≢ 0 = search rules in
    let few : c.loop-digit.digit-index ≤ 18 = omega (arith, c.loop-digit.auto.digit-index-end, c.if-digits-gt18.false) in
    let small : c.loop-digit.number < 10 ^ 18 = digits_small c.loop-digit.digit-index c.loop-digit.number c.loop-digit.invariant.small few in
    digits_all c.args.digits.now c.loop-digit.digit-index c.loop-digit.number c.loop-digit.invariant c.loop-digit-test.false (omega (arith, some)) small
    ∙ ap (λ z. Some (Int z)) (sym (to_z_pos w64 c.loop-digit.number (omega (arith, small))))
