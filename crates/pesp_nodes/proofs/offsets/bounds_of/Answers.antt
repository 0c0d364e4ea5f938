use Rattle.std.proofs.Common.{rules, FitsSigned, to_z, of_z, ◌≡◌, ◌∙◌}
use Rattle.std.specs.Int.{w64, w128}
use Rattle.std.proofs.lemmas.Int.{to_z-of_z}
use Rattle.pesp_problem.specs.Sums.{ceil_div, floor_div}
use Rattle.pesp_problem.proofs.Durations.{small_between}
use Rattle.pesp_nodes.proofs.offsets.bounds_of.Goals as goal

pub returns-clause-small : goal.returns-clause-small
returns-clause-small c z from to =
    let least_fits : FitsSigned w128 c.sums_of-least.result.0 = search rules in
    let greatest_fits : FitsSigned w128 c.sums_of-least.result.1 = search rules in
    let low_fits : FitsSigned w64 c.offset_at.result = search rules in
    let high_fits : FitsSigned w64 c.offset_at-2.result = search rules in
    let low : to_z w64 (of_z w64 c.offset_at.result)
    ≡ ceil_div c.sums_of-least.result.0 c.args.period = to_z-of_z w64 c.offset_at.result low_fits
    ∙ (rw (to_z-of_z w128 c.sums_of-least.result.0 least_fits) at c.offset_at.ensures.value) in
    let high : to_z w64 (of_z w64 c.offset_at-2.result)
    ≡ floor_div c.sums_of-least.result.1 c.args.period = to_z-of_z w64 c.offset_at-2.result high_fits
    ∙ (rw (to_z-of_z w128 c.sums_of-least.result.1 greatest_fits) at c.offset_at-2.ensures.value) in
    small_between c.args.period 10300000000000 c.sums_of-least.result.0 c.sums_of-least.result.1 z
    c.requires.period c.sums_of-least.ensures.small c.sums_of-least.ensures.large (rw low at from)
    (rw high at to)
