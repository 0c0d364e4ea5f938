use Rattle.std.proofs.Common.{arith, to_z, of_z, ◌≡◌, ◌<◌, ◌^◌, length}
use Rattle.std.specs.Prelude.{◌+ℤ◌, ◌*ℤ◌}
use Rattle.std.specs.Int.{w128}
use Rattle.std.proofs.lemmas.Int.{ints}
use Rattle.pesp_problem.specs.Arcs.{arc_at}
use Rattle.pesp_problem.specs.Terms.{number_at}
use Rattle.pesp_problem.proofs.Integers.{sum_below-more}
use Rattle.pesp_problem.proofs.Small.{arc_small, kept_lower}
use Rattle.pesp_leaves.proofs.Kept.{kept}
use Rattle.pesp_leaves.proofs.terms.lower_sum.Goals as goal

pub loop-i-preserved : goal.loop-i-preserved
loop-i-preserved c =
    let i = c.loop-i.i in
    let size = c.lower_part.ensures.size in
    let before = c.loop-i.invariant.size in
    let f : i < length c.args.flows.now = omega (arith, c.loop-i-test.true, c.requires.flows) in
    let flow = kept (number_at c.args.flows.now i) (10 ^ 24) (c.requires.small i f) (omega arith) in
    let lower = kept_lower (arc_at c.args.arcs.now i).lower (arc_small c.args.arcs.now i c.requires.arcs c.loop-i-test.true).0 in
    let here = rw (flow, lower) at c.lower_part.ensures.value in
    let plus = c.plus-sum.ensures.value in
    let e : to_z w128 (of_z w128 c.plus-sum.result)
    ≡ to_z w128 c.loop-i.sum-bits +ℤ c.lower_part.result =
    omega (arith, ints, before, size, plus, c.loop-i-test.true, c.requires.arcs.most) in
    record {
      is = sum_below-more (λ i. number_at c.args.flows.now i *ℤ (arc_at c.args.arcs.now i).lower) i
          (to_z w128 c.loop-i.sum-bits) c.lower_part.result _ c.loop-i.invariant.is here e;
      size = omega (arith, ints, e, size, before);
    }
