use Rattle.std.proofs.Common.{◌*◌, ◌+◌, ◌≤◌, ap, sym, arith}
use Rattle.std.proofs.Math.Nat.{mul-le-mul}
use Rattle.pesp_truth.proofs.Placing.{span_is}
use Rattle.pesp_truth.proofs.bits.place_of.Goals as goal

pub overflow_mul-result : goal.overflow_mul-result
overflow_mul-result c = let few : c.div_ceil.result ≤ 157 = omega (arith, c.div_ceil.ensures, c.requires.period) in omega arith

pub overflow_mul-result-2 : goal.overflow_mul-result-2
overflow_mul-result-2 c =
    let few : c.div_ceil.result * 64 ≤ 10048 = omega (arith, c.div_ceil.ensures, c.requires.period) in
    let m : c.args.event * (c.div_ceil.result * 64) ≤ 100000 * 10048 = mul-le-mul c.requires.event few in
    omega arith

pub overflow_add-result : goal.overflow_add-result
overflow_add-result c =
    let few : c.div_ceil.result * 64 ≤ 10048 = omega (arith, c.div_ceil.ensures, c.requires.period) in
    let m : c.args.event * (c.div_ceil.result * 64) ≤ 100000 * 10048 = mul-le-mul c.requires.event few in
    omega (arith, c.requires.difference, c.requires.period)

pub returns : goal.returns
returns c = ap (λ w. c.args.event * w + c.args.difference)
    (sym (span_is c.args.period c.div_ceil.result (omega (arith, c.div_ceil.ensures))))
