use Rattle.std.proofs.Common.{◌≢◌, get_or, arith, refl, inl, inr}
use Rattle.std.proofs.lemmas.Bool.Decides.{nat_tests}
use Rattle.pesp_stream.proofs.Digits.{minus_gives, plain_gives, no_minus}
use Rattle.pesp_stream.proofs.number.signed_value.Goals as goal
use Rattle.pesp_stream.proofs.number.signed_value.Goals.{else-not-is_empty-via-then-not-is_empty+else-word-eq45, else-not-is_empty-via-else-not-is_empty}

pub returns-in-None : goal.returns-in-None
returns-in-None c = rw (
  minus_gives c.args.word.now c.digits_value.result c.if-word-eq45.true
      c.digits_value.ensures.exact,
  c.in-None.is,
) refl

pub returns-in-Some : goal.returns-in-Some
returns-in-Some c = rw (
  minus_gives c.args.word.now c.digits_value.result c.if-word-eq45.true
      c.digits_value.ensures.exact,
  c.in-Some.is,
) c.negative.ensures

pub returns-in-None-digits_value : goal.returns-in-None-digits_value
returns-in-None-digits_value c =
    let plain : get_or c.args.word.now 0 0 ≢ 45 = elim c.else-not-is_empty.branch [
      | else-not-is_empty-via-then-not-is_empty+else-word-eq45 w ↦ no_minus c.args.word.now (inr w.if-word-eq45.false)
      | else-not-is_empty-via-else-not-is_empty w ↦ no_minus c.args.word.now (inl (grind (arith, nat_tests)))
    ] in
    rw (
      plain_gives c.args.word.now c.digits_value-else-not-is_empty.result plain
          c.digits_value-else-not-is_empty.ensures.exact,
      c.in-None-digits_value.is,
    ) refl

pub returns-in-Some-digits_value : goal.returns-in-Some-digits_value
returns-in-Some-digits_value c =
    let plain : get_or c.args.word.now 0 0 ≢ 45 = elim c.else-not-is_empty.branch [
      | else-not-is_empty-via-then-not-is_empty+else-word-eq45 w ↦ no_minus c.args.word.now (inr w.if-word-eq45.false)
      | else-not-is_empty-via-else-not-is_empty w ↦ no_minus c.args.word.now (inl (grind (arith, nat_tests)))
    ] in
    rw (
      plain_gives c.args.word.now c.digits_value-else-not-is_empty.result plain
          c.digits_value-else-not-is_empty.ensures.exact,
      c.in-Some-digits_value.is,
    ) c.positive.ensures
