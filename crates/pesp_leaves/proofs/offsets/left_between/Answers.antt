use Rattle.std.proofs.Common.{arith, rules, FitsSigned, to_z, of_z, ◌≡◌, ◌∙◌, sym, subst, Option, ℤ}
use Rattle.std.specs.Prelude.{IfSome}
use Rattle.std.specs.Int.{w64, w128, int_max, int_min}
use Rattle.std.proofs.lemmas.Int.{ints, clamps, to_z-of_z}
use Rattle.pesp_problem.specs.Sums.{ceil_div, floor_div}
use Rattle.pesp_leaves.specs.Offsets.{IsSmallOffset}
use Rattle.pesp_problem.proofs.Durations.{left_small}
use Rattle.pesp_leaves.proofs.offsets.left_between.Goals as goal

pub range_of-requires-clause-from : goal.range_of-requires-clause-from
range_of-requires-clause-from c = let e = c.low_end.ensures in omega (arith, ints, clamps)

pub returns-clause-small : goal.returns-clause-small
returns-clause-small c =
    let from_fits : FitsSigned w64 c.args.range.0 = search rules in
    let to_fits : FitsSigned w64 c.args.range.1 = search rules in
    let low_fits : FitsSigned w128 c.args.ends.0 = search rules in
    let high_fits : FitsSigned w128 c.args.ends.1 = search rules in
    let least_fits : FitsSigned w128 c.low_end.result = search rules in
    let greatest_fits : FitsSigned w128 c.high_end.result = search rules in
    let least : to_z w128 (of_z w128 c.low_end.result)
    ≡ int_max c.args.range.0 (ceil_div c.args.ends.0 c.args.period) = to_z-of_z w128 _ least_fits
    ∙ (rw (to_z-of_z w64 c.args.range.0 from_fits, to_z-of_z w128 c.args.ends.0 low_fits) at
    c.low_end.ensures) in
    let greatest : to_z w128 (of_z w128 c.high_end.result)
    ≡ int_min c.args.range.1 (floor_div c.args.ends.1 c.args.period) = to_z-of_z w128 _ greatest_fits
    ∙ (rw (to_z-of_z w64 c.args.range.1 to_fits, to_z-of_z w128 c.args.ends.1 high_fits) at
    c.high_end.ensures) in
    let is = rw (least, greatest) at c.range_of.ensures in
    let P : Option (ℤ × ℤ) → Type 0 = λ o. IfSome o (λ left. IsSmallOffset c.args.period left.0 × IsSmallOffset c.args.period left.1) in
    subst P (sym is) (left_small c.args.period 10100000000000 c.args.ends.0 c.args.ends.1 c.args.range.0
    c.args.range.1 c.requires.period c.requires.least c.requires.greatest)
