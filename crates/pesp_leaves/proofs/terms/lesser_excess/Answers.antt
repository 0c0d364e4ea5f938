use Rattle.std.proofs.Common.{arith, ap, unsigned_abs, ◌≡◌, ◌*◌, ◌^◌}
use Rattle.std.specs.Int.{int_min}
use Rattle.pesp_problem.proofs.Small.{lesser_small}
use Rattle.pesp_leaves.proofs.Kept.{kept}
use Rattle.pesp_leaves.proofs.terms.lesser_excess.Goals as goal

pub returns-clause-value : goal.returns-clause-value
returns-clause-value c =
    let left = kept c.args.left (11 * 10 ^ 28) c.requires.left (omega arith) in
    let wide = c.range_width-width.ensures.value in
    let width = kept c.range_width-width.result 10000 c.range_width-width.ensures.size (omega arith) in
    let flipped = kept c.args.rates.flipped (10 ^ 28) c.requires.flipped (omega arith) in
    let plain = kept c.args.rates.plain (10 ^ 28) c.requires.plain (omega arith) in
    let low = c.excess-low.ensures.value in
    let high = c.excess-high.ensures.value in
    let low_is = kept c.excess-low.result (12 * 10 ^ 32) c.excess-low.ensures.size (omega arith) in
    let high_is = kept c.excess-high.result (12 * 10 ^ 32) c.excess-high.ensures.size (omega arith) in
    let least = c.min.ensures.value in
    let least_is : c.min.result ≡ int_min c.excess-low.result c.excess-high.result = cc in
    let small = lesser_small c.min.result c.excess-low.result c.excess-high.result
    (12 * 10 ^ 32) least_is c.excess-low.ensures.size c.excess-high.ensures.size in
    let all = kept c.min.result (12 * 10 ^ 32) small (omega arith) in
    cc

pub returns-clause-size : goal.returns-clause-size
returns-clause-size c =
    let low_is = kept c.excess-low.result (12 * 10 ^ 32) c.excess-low.ensures.size (omega arith) in
    let high_is = kept c.excess-high.result (12 * 10 ^ 32) c.excess-high.ensures.size (omega arith) in
    let least = c.min.ensures.value in
    let least_is : c.min.result ≡ int_min c.excess-low.result c.excess-high.result = cc in
    let small = lesser_small c.min.result c.excess-low.result c.excess-high.result
    (12 * 10 ^ 32) least_is c.excess-low.ensures.size c.excess-high.ensures.size in
    let all = ap unsigned_abs (kept c.min.result (12 * 10 ^ 32) small (omega arith)) in
    omega (arith, all, small)
