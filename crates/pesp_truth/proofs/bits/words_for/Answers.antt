use Rattle.std.proofs.Common.{◌*◌, ◌≤◌, arith}
use Rattle.std.proofs.Math.Nat.{mul-le-mul}
use Rattle.pesp_truth.proofs.Placing.{spans}
use Rattle.pesp_truth.proofs.bits.words_for.Goals as goal

pub overflow_mul-result : goal.overflow_mul-result
overflow_mul-result c =
    let few : c.div_ceil.result ≤ 157 = omega (arith, c.div_ceil.ensures, c.requires.period) in
    let m : c.args.events * c.div_ceil.result ≤ 100000 * 157 = mul-le-mul c.requires.events few in
    omega arith

pub returns : goal.returns
returns c = spans c.args.period c.args.events c.div_ceil.result (omega (arith, c.div_ceil.ensures))
