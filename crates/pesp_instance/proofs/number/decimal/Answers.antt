use Rattle.std.proofs.Common.{◌≡◌, ◌<◌, ◌≤◌, ◌+◌, ◌*◌, ◌-◌, ◌^◌, arith, refl, get_or, length}
use Rattle.std.specs.Char.{digit_value}
use Rattle.std.proofs.lemmas.Int.Digits.{digits_value_more}
use Rattle.pesp_instance.proofs.Numbers.{digit-at, digit_value-is, power-bound, power-step}
use Rattle.pesp_instance.proofs.number.decimal.Goals as goal

pub overflow_mul-value : goal.overflow_mul-value
overflow_mul-value c =
    let i = c.loop-digit.digit-index in
    let p : 10 ^ i ≤ 10 ^ 18 = power-bound i (omega arith) in
    omega (arith, c.loop-digit.invariant.1)

pub overflow_sub-value : goal.overflow_sub-value
overflow_sub-value c =
    let d = digit_value-is (get_or c.args.digits.now c.loop-digit.digit-index 0)
    (digit-at c.args.digits.now c.loop-digit.digit-index c.requires.digits (omega arith)) in
    omega arith

pub overflow_add-value : goal.overflow_add-value
overflow_add-value c =
    let i = c.loop-digit.digit-index in
    let p : 10 ^ i ≤ 10 ^ 18 = power-bound i (omega arith) in
    let small = digit-at c.args.digits.now c.loop-digit.digit-index c.requires.digits (omega arith) in
    let d = digit_value-is (get_or c.args.digits.now c.loop-digit.digit-index 0) small in
    omega (arith, c.loop-digit.invariant.1)

pub loop-digit-preserved : goal.loop-digit-preserved
loop-digit-preserved c =
    let i = c.loop-digit.digit-index in
    let lt : i < length c.args.digits.now = omega arith in
    let small = digit-at c.args.digits.now i c.requires.digits lt in
    let d = digit_value-is (get_or c.args.digits.now c.loop-digit.digit-index 0) small in
    let v = c.loop-digit.value in
    let e : c.loop-digit.value * 10 + (get_or c.args.digits.now i 0 - 48)
    ≡ v * 10 + digit_value (get_or c.args.digits.now i 0) = omega arith in
    rw e (rw (digits_value_more 10 c.args.digits.now i lt, ← c.loop-digit.invariant.0)
    (refl, power-step i v _ c.loop-digit.invariant.1 small))

pub returns-clause-small : goal.returns-clause-small
returns-clause-small c =
    let i = c.loop-digit.digit-index in
    let p : 10 ^ i ≤ 10 ^ 18 = power-bound i (omega arith) in
    omega (arith, c.loop-digit.invariant.1)
