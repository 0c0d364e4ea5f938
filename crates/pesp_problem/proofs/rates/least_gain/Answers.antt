use Rattle.std.proofs.Common.{arith, unsigned_abs, to_z, of_z, ◌≤◌}
use Rattle.std.specs.Int.{w128}
use Rattle.std.proofs.lemmas.Int.{ints}
use Rattle.std.proofs.Math.Nat.{mul-le-mul}
use Rattle.pesp_problem.proofs.rates.least_gain.Goals as goal

pub times-requires-2 : goal.times-requires-2
times-requires-2 c =
    let a : unsigned_abs (to_z w128 (of_z w128 c.from-2.result)) ≤ 10000 = omega (arith, ints) in
    let b : unsigned_abs (to_z w128 (of_z w128 c.from-3.result)) ≤ 10000 = omega (arith, ints) in
    let inner = c.times.ensures.size 10000 10000 a b in
    let m : unsigned_abs (to_z w128 (of_z w128 c.from.result)) ≤ 1000000000000 = omega (arith, ints) in
    let r : unsigned_abs (to_z w128 (of_z w128 c.times.result)) ≤ 100000000 = omega (arith, ints) in
    omega (arith, mul-le-mul m r)

pub returns-clause-size : goal.returns-clause-size
returns-clause-size c =
    let a : unsigned_abs (to_z w128 (of_z w128 c.from-2.result)) ≤ 10000 = omega (arith, ints) in
    let b : unsigned_abs (to_z w128 (of_z w128 c.from-3.result)) ≤ 10000 = omega (arith, ints) in
    let inner = c.times.ensures.size 10000 10000 a b in
    let m : unsigned_abs (to_z w128 (of_z w128 c.from.result)) ≤ 1000000000000 = omega (arith, ints) in
    let r : unsigned_abs (to_z w128 (of_z w128 c.times.result)) ≤ 100000000 = omega (arith, ints) in
    let outer = c.times-2.ensures.size 1000000000000 100000000 m r in
    omega (arith, ints)
