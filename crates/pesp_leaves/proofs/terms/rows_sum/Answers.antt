use Rattle.std.proofs.Common.{arith, true, false, unsigned_abs, to_z, of_z, ◌≡◌, ◌≤◌, ◌<◌, ◌*◌, ◌^◌, ◌∙◌, ap, length}
use Rattle.std.specs.Prelude.{◌+ℤ◌, ◌-ℤ◌}
use Rattle.std.specs.Int.{w128}
use Rattle.std.proofs.lemmas.Int.{ints}
use Rattle.pesp_problem.specs.Nodes.{slack_range}
use Rattle.pesp_problem.specs.Rates.{rates_at}
use Rattle.pesp_problem.specs.Terms.{number_at, lesser_excess}
use Rattle.pesp_problem.proofs.Integers.{sum_below-more}
use Rattle.pesp_leaves.specs.Terms.{unit_cost_left}
use Rattle.pesp_leaves.proofs.Kept.{kept, kept_short}
use Rattle.pesp_leaves.proofs.terms.rows_sum.Goals as goal

pub lesser_excess-requires-clause-plain : goal.lesser_excess-requires-clause-plain
lesser_excess-requires-clause-plain c =
    let l : c.loop-i.i < length c.args.rates.now = omega (arith, c.loop-i-test.true, c.requires.rates) in
    let small : unsigned_abs (rates_at c.args.rates.now c.loop-i.i).plain ≤ 100000 * 10 ^ 23 = c.requires.small_rates c.loop-i.i false l in
    omega (arith, small)

pub lesser_excess-requires-clause-flipped : goal.lesser_excess-requires-clause-flipped
lesser_excess-requires-clause-flipped c =
    let l : c.loop-i.i < length c.args.rates.now = omega (arith, c.loop-i-test.true, c.requires.rates) in
    let small : unsigned_abs (rates_at c.args.rates.now c.loop-i.i).flipped ≤ 100000 * 10 ^ 23 = c.requires.small_rates c.loop-i.i true l in
    omega (arith, small)

pub loop-i-preserved : goal.loop-i-preserved
loop-i-preserved c =
    let i = c.loop-i.i in
    let size = c.lesser_excess.ensures.size in
    let before = c.loop-i.invariant.size in
    let f : i < length c.args.flows.now = omega (arith, c.loop-i-test.true, c.requires.flows) in
    let w : i < length c.args.weights.now = omega (arith, c.loop-i-test.true, c.requires.weights) in
    let flow = kept (number_at c.args.flows.now i) (100001 * 10 ^ 24) (omega (arith, c.requires.small_flows i f)) (omega arith) in
    let weight = kept_short (number_at c.args.weights.now i) (c.requires.small_weights i w) in
    let left_is = kept c.left_at-left.result (11 * 10 ^ 28) c.left_at-left.ensures.size (omega arith) in
    let scaled_is = kept c.scaled_weight-scaled.result (10 ^ 18) c.scaled_weight-scaled.ensures.size (omega arith) in
    let scaled = rw weight at c.scaled_weight-scaled.ensures.value in
    let left = rw (scaled_is, flow) at c.left_at-left.ensures.value ∙ ap (λ z. z -ℤ number_at c.args.flows.now i) scaled in
    let value = rw left_is at c.lesser_excess.ensures.value in
    let here : c.lesser_excess.result ≡ lesser_excess (unit_cost_left c.args.scale c.args.weighted (number_at c.args.weights.now i)
    (number_at c.args.flows.now i)) (slack_range c.args.slacks.now i) (rates_at c.args.rates.now i) = value
    ∙ ap (λ z. lesser_excess z (slack_range c.args.slacks.now i) (rates_at c.args.rates.now i)) left in
    let plus = c.plus-sum.ensures.value in
    let e : to_z w128 (of_z w128 c.plus-sum.result)
    ≡ to_z w128 c.loop-i.sum-bits +ℤ c.lesser_excess.result =
    omega (arith, ints, before, size, plus, c.loop-i-test.true, c.requires.few) in
    record {
      is = sum_below-more (λ i. lesser_excess (unit_cost_left c.args.scale c.args.weighted (number_at c.args.weights.now i)
          (number_at c.args.flows.now i)) (slack_range c.args.slacks.now i) (rates_at c.args.rates.now i)) i
          (to_z w128 c.loop-i.sum-bits) c.lesser_excess.result _ c.loop-i.invariant.is here e;
      size = omega (arith, ints, e, size, before);
    }
