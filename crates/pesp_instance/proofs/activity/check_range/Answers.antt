use Rattle.std.proofs.Common.{◌≡◌, ◌∙◌, sym, refl, arith, rules, ◌<◌, length, drop, [], get_or, to_z-of_z, w64, SFits, pos, drop_of_length-le}
use Rattle.pesp_instance.proofs.Fields.{range-all, range-more, range-stops}
use Rattle.pesp_instance.proofs.activity.check_range.Goals as goal

pub returns-then-not-is_within : goal.returns-then-not-is_within
returns-then-not-is_within c =
    let i = c.loop-number.number-index in
    let there : i < length c.args.numbers.now = omega arith in
    let e = range-stops c.args.at c.loop-number.field c.args.numbers.now i there in
    let fits : SFits w64 (get_or c.args.numbers.now i (pos 0)) = search rules in
    let same = to_z-of_z {w = w64} {z = get_or c.args.numbers.now i (pos 0)} fits in
    let x = rw same at c.is_within.ensures in
    rw (c.loop-number.invariant.0 ∙ e (sym x ∙ c.if-not-is_within.true)) refl

pub loop-number-preserved : goal.loop-number-preserved
loop-number-preserved c =
    let i = c.loop-number.number-index in
    let there : i < length c.args.numbers.now = omega arith in
    let e = range-more c.args.at c.loop-number.field c.args.numbers.now i there in
    let fits : SFits w64 (get_or c.args.numbers.now i (pos 0)) = search rules in
    let same = to_z-of_z {w = w64} {z = get_or c.args.numbers.now i (pos 0)} fits in
    let x = rw same at c.is_within.ensures in
    (c.loop-number.invariant.0 ∙ e (sym x ∙ c.if-not-is_within.false), omega (arith, c.loop-number.invariant.1))

pub returns : goal.returns
returns c =
    let e : drop c.loop-number.number-index c.args.numbers.now ≡ [] = drop_of_length-le c.args.numbers.now (omega arith) in
    let n = rw e at c.loop-number.invariant.0 ∙ range-all c.args.at c.loop-number.field in
    rw n refl
