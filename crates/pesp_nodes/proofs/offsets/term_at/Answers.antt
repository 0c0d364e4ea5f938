use Rattle.std.proofs.Common.{arith, rules, unsigned_abs, FitsSigned, to_z, of_z, ◌≡◌, ◌≤◌, ap}
use Rattle.std.specs.Int.{w64, w128}
use Rattle.std.proofs.lemmas.Int.{ints, to_z-of_z}
use Rattle.pesp_nodes.proofs.offsets.term_at.Goals as goal

pub returns-clause-size : goal.returns-clause-size
returns-clause-size c =
    let wide : to_z w128 (of_z w128 c.from.result) ≡ c.args.net.now.count = omega (arith, ints) in
    let count : unsigned_abs (to_z w128 (of_z w128 c.from.result))
    ≤ unsigned_abs c.args.net.now.count = omega (arith, ap unsigned_abs wide) in
    let duration_fits : FitsSigned w64 c.duration_at-duration.result = search rules in
    let duration_wide : to_z w128 (of_z w128 c.from-2.result) ≡ c.duration_at-duration.result = omega (arith, ints) in
    let duration : unsigned_abs (to_z w128 (of_z w128 c.from-2.result))
    ≤ 1030000 = omega (arith, ap unsigned_abs duration_wide, c.duration_at-duration.ensures.size) in
    let fits : FitsSigned w128 c.times.result = search rules in
    rw (to_z-of_z w128 c.times.result fits) (c.times.ensures.size (unsigned_abs c.args.net.now.count) 1030000 count duration)

pub returns-clause-value : goal.returns-clause-value
returns-clause-value c = search rules
