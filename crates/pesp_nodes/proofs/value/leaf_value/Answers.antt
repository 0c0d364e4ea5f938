use Rattle.std.proofs.Common.{◌≡◌, ◌<◌, ◌^◌, length, Option, ℤ, subst, sym, to_z, of_z, arith}
use Rattle.std.specs.Prelude.{◌+ℤ◌, unsigned_abs, IfSome}
use Rattle.std.specs.Int.{w128}
use Rattle.std.proofs.lemmas.Int.{ints}
use Rattle.pesp_problem.specs.Arcs.{over_arcs}
use Rattle.pesp_problem.specs.Nodes.{flow}
use Rattle.pesp_nodes.specs.Problems.{problem_net}
use Rattle.pesp_problem.specs.Nets.{AreNets}
use Rattle.pesp_problem.specs.Ranges.{AreSlackEnds}
use Rattle.pesp_nodes.specs.Flows.{AreFlows}
use Rattle.pesp_nodes.specs.Passages.{ArePassages}
use Rattle.pesp_nodes.specs.Values.{row_term_at}
use Rattle.pesp_nodes.proofs.LeafValues.{value_is}
use Rattle.pesp_nodes.proofs.Sizes.{value_small}
use Rattle.pesp_nodes.proofs.value.leaf_value.Goals as goal

pub returns : goal.returns
returns c =
    let are : ArePassages (length c.arcs-arcs.result.now)
    (length c.args.problem.now.table) c.args.problem.now.table c.passages.result.now =
    rw c.arcs-arcs.ensures.rows c.passages.ensures.passages in
    let table = c.args.problem.now.table in
    let nets : AreNets (length c.arcs-arcs.result.now) table c.nets.result.now = rw c.arcs-arcs.ensures.rows c.nets.ensures.nets in
    let flows : AreFlows table c.args.pairs.now c.flows_of-flows.result.items = c.flows_of-flows.ensures.flows table nets in
    let rows = c.row_sum-rows.ensures.value table are (λ k d l. (c.requires.pairs.each k d l).names) (rw c.deref.ensures.value flows) in
    let rows_are : c.row_sum-rows.result ≡ over_arcs (problem_net c.args.problem.now).arcs
    (λ i. row_term_at (problem_net c.args.problem.now).arcs c.args.node.now.slacks c.args.weighted i
    (flow c.args.problem.now.table c.args.pairs.now i)) =
    rw (c.arcs-arcs.ensures.arcs, c.slacks.ensures.slacks) at rows in
    let offsets_size = c.in_ok-offsets.ensures.size in
    let rows_size = c.row_sum-rows.ensures.size in
    let total : to_z w128 (of_z w128 c.plus.result)
    ≡ c.in_ok-offsets.offsets +ℤ c.row_sum-rows.result =
    (let value = c.plus.ensures.value in omega (arith, ints)) in
    let value = value_is (problem_net c.args.problem.now) c.args.problem.now.table c.args.node.now c.args.pairs.now
    c.args.weighted c.in_ok-offsets.offsets c.row_sum-rows.result _ c.in_ok-offsets.ensures.value rows_are
    total in
    let ends : AreSlackEnds c.args.node.now.slacks = c.slacks.ensures.ends in
    let P : Option ℤ → Type 0 = λ o. IfSome o (λ v. unsigned_abs v < 10 ^ 26) in
    record {
      value = value;
      small = subst P (sym value) (value_small c.args.problem.now c.args.node.now c.args.pairs.now c.args.weighted
          c.keeps_limits.ensures.network c.keeps_limits.ensures.table ends c.requires.node c.requires.pairs);
    }
