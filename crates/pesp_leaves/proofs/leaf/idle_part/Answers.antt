use Rattle.std.proofs.Common.{arith, unsigned_abs, ap, ◌≤◌, ◌^◌}
use Rattle.std.proofs.lemmas.Int.{ints}
use Rattle.pesp_leaves.proofs.Idle.{idle_sum_small}
use Rattle.pesp_leaves.proofs.leaf.idle_part.Goals as goal

pub returns-then-weighted-clause-size : goal.returns-then-weighted-clause-size
returns-then-weighted-clause-size c p limits ranges =
    let small = idle_sum_small p c.args.ranges.now.slacks.items limits ranges.slacks in
    let is : unsigned_abs c.args.ranges.now.idle ≤ 10 ^ 18 = omega (arith, small, ap unsigned_abs ranges.idle) in
    omega (arith, ints)
