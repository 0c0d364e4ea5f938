use Rattle.std.proofs.Common.{arith}
use Rattle.std.proofs.lemmas.Int.{ints}
use Rattle.pesp_leaves.proofs.terms.excess.Goals as goal

pub minus-requires : goal.minus-requires
minus-requires c =
    let flow = c.times.ensures.size 110000000000000000000000000000 10000 (omega (arith, ints)) (omega (arith, ints)) in
    let gain = c.times-2.ensures.size 10000000000000000000000000000 10000 (omega (arith, ints)) (omega (arith, ints)) in
    omega (arith, ints)

pub returns-clause-size : goal.returns-clause-size
returns-clause-size c =
    let flow = c.times.ensures.size 110000000000000000000000000000 10000 (omega (arith, ints)) (omega (arith, ints)) in
    let gain = c.times-2.ensures.size 10000000000000000000000000000 10000 (omega (arith, ints)) (omega (arith, ints)) in
    let size = c.minus.ensures.size in
    omega (arith, ints)
