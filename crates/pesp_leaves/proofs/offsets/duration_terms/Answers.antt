use Rattle.std.proofs.Common.{arith, rules, unsigned_abs, FitsSigned, to_z, of_z, ◌≡◌, ◌≤◌, ap}
use Rattle.std.specs.Int.{w128}
use Rattle.std.proofs.lemmas.Int.{ints, to_z-of_z}
use Rattle.pesp_leaves.proofs.offsets.duration_terms.Goals as goal

-- the count as the code widens it
wide : (c : goal.After-scaled-2) → to_z w128 (of_z w128 c.from-count.result) ≡ c.args.net.now.count
wide c = omega (arith, ints)

low : (c : goal.After-scaled-2) → unsigned_abs (to_z w128 (of_z w128 c.duration-low.result)) ≤ 1010000
low c = let fits : FitsSigned w128 c.duration-low.result = search rules in
    rw (to_z-of_z w128 c.duration-low.result fits) c.duration-low.ensures.size

high : (c : goal.After-scaled-2) → unsigned_abs (to_z w128 (of_z w128 c.duration-high.result)) ≤ 1010000
high c = let fits : FitsSigned w128 c.duration-high.result = search rules in
    rw (to_z-of_z w128 c.duration-high.result fits) c.duration-high.ensures.size

pub returns-clause-least_size : goal.returns-clause-least_size
returns-clause-least_size c =
    let fits : FitsSigned w128 c.scaled.result = search rules in
    let count : unsigned_abs (to_z w128 (of_z w128 c.from-count.result))
    ≤ unsigned_abs c.args.net.now.count = omega (arith, ap unsigned_abs (wide c)) in
    rw (to_z-of_z w128 c.scaled.result fits) (c.scaled.ensures.size (unsigned_abs c.args.net.now.count) 1010000 count (low c) (high c))

pub returns-clause-greatest_size : goal.returns-clause-greatest_size
returns-clause-greatest_size c =
    let fits : FitsSigned w128 c.scaled-2.result = search rules in
    let count : unsigned_abs (to_z w128 (of_z w128 c.from-count.result))
    ≤ unsigned_abs c.args.net.now.count = omega (arith, ap unsigned_abs (wide c)) in
    rw (to_z-of_z w128 c.scaled-2.result fits) (c.scaled-2.ensures.size (unsigned_abs c.args.net.now.count) 1010000 count (high c) (low c))
