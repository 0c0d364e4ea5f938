use Rattle.std.proofs.Common.{◌≡◌, arith, to_z, of_z, length}
use Rattle.std.specs.Prelude.{◌+ℤ◌}
use Rattle.std.specs.Int.{w128}
use Rattle.std.proofs.lemmas.Int.{ints}
use Rattle.pesp_problem.specs.Arcs.{net_of}
use Rattle.pesp_leaves.proofs.Summing.{gains_small, summed_more}
use Rattle.pesp_leaves.proofs.gains.add_walks.Goals as goal

pub loop-pair-preserved : goal.loop-pair-preserved
loop-pair-preserved g c =
    let elements = g.P.Elements.elements in
    let n = net_of c.args.checker.now.instance.now in
    let cycles = length c.args.checker.now.table.now in
    let walks = c.args.shown.now.marks.now.walks in
    let pair = c.in-Some.pair in
    let before = gains_small n c.args.slacks.now cycles walks (elements c.args.pairs) (elements c.loop-pair.left)
    (elements c.take_next.new.self) pair (to_z w128 c.loop-pair.gains-bits) c.loop-pair.rates c.in-Some.ensures
    c.loop-pair.invariant in
    let size = c.add_pair.ensures.gain_size in
    let plus = c.plus-gains.ensures.value in
    let e : to_z w128 (of_z w128 c.plus-gains.result)
    ≡ to_z w128 c.loop-pair.gains-bits +ℤ c.add_pair.result = omega (arith, ints, before, size, plus) in
    summed_more n c.args.slacks.now cycles walks (elements c.args.pairs) (elements c.loop-pair.left)
    (elements c.take_next.new.self) pair (to_z w128 c.loop-pair.gains-bits) c.loop-pair.rates c.in-Some.ensures
    c.loop-pair.invariant _ c.add_pair.result c.add_pair.new.rates c.add_pair.auto.rates e
    c.add_pair.ensures.gain size c.add_pair.ensures.sum c.add_pair.ensures.size
