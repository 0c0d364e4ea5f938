use Rattle.std.proofs.Common.{◌≡◌, ◌<◌, ◌∙◌, [], length, ℕ, FitsSigned, to_z, of_z, arith, rules, ap}
use Rattle.std.specs.Prelude.{◌+ℤ◌}
use Rattle.std.specs.Int.{w128}
use Rattle.std.proofs.lemmas.Int.{ints, to_z-of_z}
use Rattle.std.proofs.lemmas.List.{get_or_default}
use Rattle.pesp_problem.specs.Sums.{sum_below}
use Rattle.pesp_problem.specs.Nodes.{flow}
use Rattle.pesp_problem.proofs.Integers.{sum_below-more}
use Rattle.pesp_nodes.specs.Passages.{ArePassagesOf, passages_at}
use Rattle.pesp_nodes.specs.Values.{row_term_at}
use Rattle.pesp_nodes.proofs.value.row_sum.Goals as goal

pub loop-place-preserved : goal.loop-place-preserved
loop-place-preserved c =
    let k = c.loop-place.place in
    let few = c.requires.few in
    let size = c.loop-place.invariant.1 in
    let here_size = c.row_term.ensures.size in
    let sum : to_z w128 (of_z w128 c.plus-sum.result)
    ≡ to_z w128 c.loop-place.sum-bits +ℤ c.row_term.result =
    (let value = c.plus-sum.ensures.value in omega (arith, ints)) in
    let inside : k < length c.args.by_row.now = omega (arith, c.requires.rows) in
    let at : c.as_slice.result.now ≡ passages_at c.args.by_row.now k = c.as_slice.ensures ∙ c.index-by_row-place.is
    ∙ get_or_default c.args.by_row.now k c.index-by_row-place.result [] inside in
    let flow_fits : FitsSigned w128 c.flow_at-flow.result = search rules in (
      λ walks are names flows.
          (let passages : ArePassagesOf (length walks) walks k c.as_slice.result.now = rw at (are.each k c.loop-place-test.true) in
          let flow_is : to_z w128 (of_z w128 c.flow_at-flow.result)
          ≡ flow walks c.args.pairs.now k = to_z-of_z w128 c.flow_at-flow.result flow_fits
          ∙ c.flow_at-flow.ensures.value walks names passages flows in
          let here : c.row_term.result ≡ row_term_at c.args.arcs.now c.args.slacks.now c.args.weighted k
          (flow walks c.args.pairs.now k) = c.row_term.ensures.value
          ∙ ap (row_term_at c.args.arcs.now c.args.slacks.now c.args.weighted k) flow_is in
          sum_below-more (λ i. row_term_at c.args.arcs.now c.args.slacks.now c.args.weighted i
          (flow walks c.args.pairs.now i)) k (to_z w128 c.loop-place.sum-bits) c.row_term.result _
          (c.loop-place.invariant.0 walks are names flows) here sum),
      rw sum (omega (arith, ints)),
    )

pub returns-clause-value : goal.returns-clause-value
returns-clause-value c walks are names flows =
    let all : c.loop-place.place ≡ length c.args.arcs.now = omega arith in
    c.loop-place.invariant.0 walks are names flows
    ∙ ap (λ (n : ℕ). sum_below n (λ i. row_term_at c.args.arcs.now c.args.slacks.now c.args.weighted i
    (flow walks c.args.pairs.now i))) all
