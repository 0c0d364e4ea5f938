use Rattle.std.proofs.Common.{get_or, arith}
use Rattle.std.proofs.lemmas.Bool.Decides.{nat_tests}
use Rattle.pesp_stream.proofs.Digits.{digit_range, empty_is_none, long_is_none, zero_led_is_none, other_is_none, all_is_some, more_fits, all_is_below}
use Rattle.pesp_stream.proofs.number.digits_value.Goals as goal

pub returns-then-is_empty-clause-exact : goal.returns-then-is_empty-clause-exact
returns-then-is_empty-clause-exact c = empty_is_none c.args.word.now (grind (arith, nat_tests))

pub returns-then-word-gt18-clause-exact : goal.returns-then-word-gt18-clause-exact
returns-then-word-gt18-clause-exact c = long_is_none c.args.word.now c.if-word-gt18.true

pub returns-then-word-ne1-clause-exact : goal.returns-then-word-ne1-clause-exact
returns-then-word-ne1-clause-exact c = zero_led_is_none c.args.word.now (omega arith) (omega arith)

pub returns-then-not-is_ascii_digit-clause-exact : goal.returns-then-not-is_ascii_digit-clause-exact
returns-then-not-is_ascii_digit-clause-exact c =
    other_is_none c.args.word.now c.loop-byte.byte-index c.loop-byte.number (omega arith)
    (grind arith) c.loop-byte.invariant

pub overflow_mul-number : goal.overflow_mul-number
overflow_mul-number c = omega (
  arith,
  more_fits c.loop-byte.byte-index c.loop-byte.number _
      c.loop-byte.invariant.bound c.loop-byte-test.true (omega arith),
)

pub overflow_add-number : goal.overflow_add-number
overflow_add-number c = let range = digit_range (get_or c.args.word.now c.loop-byte.byte-index 0) (grind arith) in
    omega (
      arith,
      range,
      more_fits c.loop-byte.byte-index c.loop-byte.number _ c.loop-byte.invariant.bound
          c.loop-byte-test.true (omega arith),
    )

pub returns-clause-exact : goal.returns-clause-exact
returns-clause-exact c = all_is_some c.args.word.now c.loop-byte.byte-index c.loop-byte.number
    c.loop-byte-test.false (grind (arith, nat_tests)) (omega arith) (λ z. omega arith) c.loop-byte.invariant

pub returns-clause-below : goal.returns-clause-below
returns-clause-below c = all_is_below c.loop-byte.byte-index c.loop-byte.number _ c.loop-byte.invariant.bound
    c.loop-byte.auto.byte-index-end (omega arith)
