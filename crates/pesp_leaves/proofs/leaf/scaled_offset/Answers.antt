use Rattle.std.proofs.Common.{arith, rules, unsigned_abs, FitsSigned, to_z, of_z, ◌≡◌, ◌≤◌, ◌∙◌, ap}
use Rattle.std.specs.Prelude.{pos}
use Rattle.std.specs.Int.{w64, w128}
use Rattle.std.proofs.lemmas.Int.{ints, to_z-of_z}
use Rattle.pesp_problem.proofs.LeafValues.{scaled_times}
use Rattle.pesp_leaves.proofs.leaf.scaled_offset.Goals as goal

pub returns-clause-value : goal.returns-clause-value
returns-clause-value c =
    let low_fits : FitsSigned w128 c.period_times-low.result = search rules in
    let high_fits : FitsSigned w128 c.period_times-high.result = search rules in
    let left_fits : FitsSigned w64 c.args.left.0 = search rules in
    let right_fits : FitsSigned w64 c.args.left.1 = search rules in
    let fits : FitsSigned w128 c.scaled.result = search rules in
    let mult : to_z w128 (of_z w128 c.from.result) ≡ c.args.mult = omega (arith, ints) in
    let low = to_z-of_z w128 _ low_fits ∙ (rw (to_z-of_z w64 _ left_fits) at c.period_times-low.ensures.value) in
    let high = to_z-of_z w128 _ high_fits ∙ (rw (to_z-of_z w64 _ right_fits) at c.period_times-high.ensures.value) in
    to_z-of_z w128 _ fits ∙ (rw (mult, low, high) at c.scaled.ensures.value)
    ∙ scaled_times (pos c.args.period) c.args.mult c.args.left.0 c.args.left.1

pub returns-clause-size : goal.returns-clause-size
returns-clause-size c =
    let fits : FitsSigned w128 c.scaled.result = search rules in
    let mult : to_z w128 (of_z w128 c.from.result) ≡ c.args.mult = omega (arith, ints) in
    let m : unsigned_abs (to_z w128 (of_z w128 c.from.result)) ≤ 1000000000000 = omega (arith, ap unsigned_abs mult, c.requires.mult) in
    let low = c.period_times-low.ensures.size in
    let high = c.period_times-high.ensures.size in
    let l : unsigned_abs (to_z w128 (of_z w128 c.period_times-low.result)) ≤ 10100000000000 = omega (arith, ints) in
    let h : unsigned_abs (to_z w128 (of_z w128 c.period_times-high.result)) ≤ 10100000000000 = omega (arith, ints) in
    rw (to_z-of_z w128 _ fits) (c.scaled.ensures.size 1000000000000 10100000000000 m l h)
