use Rattle.std.proofs.Common.{◌≡◌, arith, to_z, of_z}
use Rattle.std.specs.Prelude.{◌+ℤ◌}
use Rattle.std.specs.Int.{w128}
use Rattle.std.proofs.lemmas.Int.{ints}
use Rattle.pesp_leaves.proofs.Adding.{sum_small, summed_more}
use Rattle.pesp_leaves.proofs.lemmas.add_lemmas.Goals as goal

pub loop-pair-preserved : goal.loop-pair-preserved
loop-pair-preserved g c =
    let elements = g.P.Elements.elements in
    let others = c.args.others in
    let facts = c.args.facts.now in
    let pair = c.in-Some.pair in
    let before = sum_small others facts (elements c.args.pairs) (elements c.loop-pair.left) (elements c.take_next.new.self) pair
    c.args.flows.now (to_z w128 c.loop-pair.sum-bits) c.loop-pair.flows c.in-Some.ensures c.loop-pair.invariant in
    let size = c.add_lemma.ensures.floor_size in
    let plus = c.plus-sum.ensures.value in
    let e : to_z w128 (of_z w128 c.plus-sum.result)
    ≡ to_z w128 c.loop-pair.sum-bits +ℤ c.add_lemma.result = omega (arith, ints, before, size, plus) in
    summed_more others facts (elements c.args.pairs) (elements c.loop-pair.left) (elements c.take_next.new.self) pair
    c.args.flows.now (to_z w128 c.loop-pair.sum-bits) c.loop-pair.flows c.in-Some.ensures c.loop-pair.invariant _ c.add_lemma.result
    c.add_lemma.new.flows c.add_lemma.auto.flows e c.add_lemma.ensures.floor size c.add_lemma.ensures.sum c.add_lemma.ensures.size
