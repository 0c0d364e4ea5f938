use Rattle.std.proofs.Common.{◌≡◌, ◌≤◌, ◌∙◌, ap, pos, ℤ, unsigned_abs, FitsSigned, to_z, of_z, arith, rules}
use Rattle.std.specs.Prelude.{◌*ℤ◌}
use Rattle.std.specs.Int.{w64, w128}
use Rattle.std.proofs.lemmas.Int.{ints, to_z-of_z}
use Rattle.pesp_problem.proofs.Integers.{swap_left}
use Rattle.pesp_nodes.proofs.value.offset_term.Goals as goal

pub returns-clause-value : goal.returns-clause-value
returns-clause-value c =
    let mult_fits : FitsSigned w64 c.args.mult = search rules in
    let offset_fits : FitsSigned w64 c.of-offset.result = search rules in
    let term_fits : FitsSigned w128 c.period_times.result = search rules in
    let fits : FitsSigned w128 c.times.result = search rules in
    let mult : to_z w128 (of_z w128 c.from.result) ≡ c.args.mult = omega (arith, ints) in
    let term : to_z w128 (of_z w128 c.period_times.result)
    ≡ pos c.args.period *ℤ c.of-offset.result = to_z-of_z w128 c.period_times.result term_fits
    ∙ (rw (to_z-of_z w64 c.of-offset.result offset_fits) at c.period_times.ensures.value) in
    let taken = rw (to_z-of_z w64 c.args.mult mult_fits) at c.end_for.ensures c.args.left.0 c.args.left.1 in
    let by_mult : ℤ → ℤ = λ z. c.args.mult *ℤ z in
    let by_period : ℤ → ℤ = λ z. pos c.args.period *ℤ z in
    to_z-of_z w128 c.times.result fits ∙ (rw (mult, term) at c.times.ensures.value)
    ∙ swap_left c.args.mult (pos c.args.period) c.of-offset.result
    ∙ ap by_period (ap by_mult c.of-offset.ensures ∙ taken)

pub returns-clause-size : goal.returns-clause-size
returns-clause-size c =
    let mult : unsigned_abs (to_z w128 (of_z w128 c.from.result)) ≤ 1000000000000 = omega (arith, ints) in
    let term_fits : FitsSigned w128 c.period_times.result = search rules in
    let term : unsigned_abs (to_z w128 (of_z w128 c.period_times.result))
    ≤ 10300000000000 = rw (to_z-of_z w128 c.period_times.result term_fits) c.period_times.ensures.size in
    let fits : FitsSigned w128 c.times.result = search rules in
    rw (to_z-of_z w128 c.times.result fits) (c.times.ensures.size 1000000000000 10300000000000 mult term)
