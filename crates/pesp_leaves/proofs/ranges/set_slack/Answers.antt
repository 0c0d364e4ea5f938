use Rattle.std.proofs.Common.{arith, unsigned_abs, to_z, of_z, ◌≡◌, ◌≤◌, ◌∙◌, ap, length, sym, get_or}
use Rattle.std.specs.Prelude.{◌+ℤ◌, ◌-ℤ◌}
use Rattle.std.specs.Int.{w128}
use Rattle.std.proofs.lemmas.Int.{ints}
use Rattle.std.proofs.lemmas.List.{get_or_default}
use Rattle.pesp_problem.specs.Arcs.{arcs_of}
use Rattle.pesp_leaves.specs.Ranges.{idle_term}
use Rattle.pesp_leaves.proofs.Idle.{idle_sum_small, idle_set, ranges_set}
use Rattle.pesp_leaves.proofs.ranges.set_slack.Goals as goal

pub minus-requires : goal.minus-requires
minus-requires c =
    let small = idle_sum_small c.args.instance.now c.args.ranges.now.slacks.items c.idle_term-before.ensures.limits
    c.requires.ranges.slacks in
    let is : unsigned_abs c.args.ranges.now.idle ≤ 1000000000000000000 = omega (arith, small, ap unsigned_abs c.requires.ranges.idle) in
    let size = c.idle_term-before.ensures.size in
    omega (arith, ints)

pub plus-ranges-requires : goal.plus-ranges-requires
plus-ranges-requires c =
    let small = idle_sum_small c.args.instance.now c.args.ranges.now.slacks.items c.idle_term-before.ensures.limits
    c.requires.ranges.slacks in
    let is : unsigned_abs c.args.ranges.now.idle ≤ 1000000000000000000 = omega (arith, small, ap unsigned_abs c.requires.ranges.idle) in
    let size = c.idle_term-before.ensures.size in
    let after = c.idle_term-after.ensures.size in
    let less = c.minus.ensures.size in
    omega (arith, ints)

pub returns-clause-ranges : goal.returns-clause-ranges
returns-clause-ranges c =
    let ranges = c.requires.ranges in
    let small = idle_sum_small c.args.instance.now c.args.ranges.now.slacks.items c.idle_term-before.ensures.limits ranges.slacks in
    let is : unsigned_abs c.args.ranges.now.idle ≤ 1000000000000000000 = omega (arith, small, ap unsigned_abs ranges.idle) in
    let read : c.index.result.now ≡ get_or c.args.ranges.now.slacks.items c.args.place (0, 0) = c.index.ensures
    ∙ get_or_default c.args.ranges.now.slacks.items c.args.place c.index.result.now (0, 0)
    (omega (arith, ranges.slacks)) in
    let before : c.idle_term-before.result ≡ idle_term
    (arcs_of c.args.instance.now) c.args.ranges.now.slacks.items c.args.place =
    rw (sym read) c.idle_term-before.ensures.value in
    let size = c.idle_term-before.ensures.size in
    let size' = c.idle_term-after.ensures.size in
    let less = c.minus.ensures.value in
    let sum = c.plus-ranges.ensures.value in
    let e : to_z w128 (of_z w128 c.plus-ranges.result)
    ≡ (c.args.ranges.now.idle -ℤ c.idle_term-before.result) +ℤ c.idle_term-after.result = omega (arith, ints) in
    record {
      slacks = ranges_set (length c.args.instance.now.rows) c.args.ranges.now.slacks.items c.args.place
          c.args.range ranges.slacks c.requires.low c.requires.high;
      idle = e ∙ idle_set c.args.instance.now c.args.ranges.now.slacks.items c.args.place c.args.range
          c.args.ranges.now.idle c.idle_term-before.result c.idle_term-after.result c.requires.exists ranges.slacks
          ranges.idle before c.idle_term-after.ensures.value;
    }
