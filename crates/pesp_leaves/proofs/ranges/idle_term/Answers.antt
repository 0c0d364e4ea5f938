use Rattle.std.proofs.Common.{arith, rules, FitsSigned, to_z, of_z, ◌≡◌}
use Rattle.std.specs.Prelude.{pos}
use Rattle.std.specs.Int.{w128}
use Rattle.std.proofs.lemmas.Int.{ints, to_z-of_z}
use Rattle.pesp_leaves.proofs.Idle.{idle_small}
use Rattle.pesp_leaves.proofs.ranges.idle_term.Goals as goal

pub returns-clause-size : goal.returns-clause-size
returns-clause-size c =
    let small = c.arc_at.ensures.weight in
    let weight : to_z w128 (of_z w128 c.from-weight.result) ≡ pos c.arc_at.result.weight = omega (arith, ints) in
    let low : to_z w128 (of_z w128 c.from.result) ≡ pos c.args.range.0 = omega (arith, ints) in
    let high : to_z w128 (of_z w128 c.from-2.result) ≡ pos c.args.range.1 = omega (arith, ints) in
    let low_product = rw (weight, low) at c.times.ensures.value in
    let high_product = rw (weight, high) at c.times-2.ensures.value in
    let low_fits : FitsSigned w128 c.times.result = search rules in
    let high_fits : FitsSigned w128 c.times-2.result = search rules in
    let fits : FitsSigned w128 c.min.result = search rules in
    let least = rw (
      to_z-of_z w128 c.times.result low_fits,
      to_z-of_z w128 c.times-2.result high_fits,
      low_product,
      high_product,
    ) at c.min.ensures.value in
    let most = idle_small c.arc_at.result.weight c.args.range.0 c.args.range.1 small c.requires.low c.requires.high in
    rw (to_z-of_z w128 c.min.result fits, least) most
