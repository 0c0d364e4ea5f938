use Rattle.std.proofs.Common.{arith, unsigned_abs, FitsSigned, ap}
use Rattle.std.specs.Int.{w64, w128}
use Rattle.std.proofs.lemmas.Int.{ints, to_z-of_z}
use Rattle.pesp_problem.proofs.Durations.{floor_div-size}
use Rattle.pesp_leaves.proofs.offsets.quotient_down.Goals as goal

pub overflow_cast-result : goal.overflow_cast-result
overflow_cast-result c =
    let fits : FitsSigned w128 c.args.z = omega (arith, ints, c.requires.small) in
    let e = rw (to_z-of_z w128 _ fits) at c.floor_div.ensures in
    let small = floor_div-size c.args.z c.args.by in
    omega (arith, ints, ap unsigned_abs e)

pub returns : goal.returns
returns c =
    let fits : FitsSigned w128 c.args.z = omega (arith, ints, c.requires.small) in
    let e = rw (to_z-of_z w128 _ fits) at c.floor_div.ensures in
    let small = floor_div-size c.args.z c.args.by in
    let wide : FitsSigned w128 c.floor_div.result = omega (arith, ints, ap unsigned_abs e) in
    let narrow : FitsSigned w64 c.floor_div.result = omega (arith, ints, ap unsigned_abs e) in
    rw (to_z-of_z w128 _ wide, to_z-of_z w64 _ narrow) e
