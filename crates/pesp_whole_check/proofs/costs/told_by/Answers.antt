use Rattle.std.proofs.Common.{arith, rules, FitsSigned}
use Rattle.std.specs.Prelude.{pos, ◌<ℤ◌}
use Rattle.std.specs.Int.{w128}
use Rattle.std.proofs.lemmas.Int.{ints, to_z-of_z}
use Rattle.pesp_whole_check.proofs.Shown.{told_large, told_negative}
use Rattle.pesp_whole_check.proofs.costs.told_by.Goals as goal

pub returns-then-value-gt-MOST_VALUE : goal.returns-then-value-gt-MOST_VALUE
returns-then-value-gt-MOST_VALUE c =
    let fits : FitsSigned w128 c.args.value = search rules in
    let test = rw (to_z-of_z w128 c.args.value fits) at c.if-value-gt-MOST_VALUE.true in
    let above : pos 1000000000000000000000000 <ℤ c.args.value = omega (arith, ints) in
    told_large c.args.value c.args.scale c.requires.some c.requires.most above

pub returns-then-value-lt0 : goal.returns-then-value-lt0
returns-then-value-lt0 c =
    let fits : FitsSigned w128 c.args.value = search rules in
    let test = rw (to_z-of_z w128 c.args.value fits) at c.if-value-lt0.true in
    let below : c.args.value <ℤ pos 0 = omega (arith, ints) in
    told_negative c.args.value c.args.scale c.requires.some below
