use Rattle.std.proofs.Common.{◌≡◌, ℕ, ◌<◌, ◌≤◌, List, length, ap, arith, subst}
use Rattle.std.proofs.lemmas.Grind.{common_steps}
use Rattle.std.specs.Prelude.{pos, slice_index_or}
use Rattle.pesp_problem.specs.Walks.{net_count}
use Rattle.pesp_network.specs.Networks.{NetworkValue}
use Rattle.pesp_nodes.specs.Problems.{problem_net, ArePairs}
use Rattle.pesp_bound.specs.declared.edge.Edge.{Edge}
use Rattle.pesp_bound.specs.Settling.{AreSettled, GainsForEver}
use Rattle.pesp_bound.specs.Differences.{IsSystem, walk_along, own_flow, AreCycleMultipliers}
use Rattle.pesp_bound.proofs.Systems.{within_of, not_settled, way_places, small_along, own_rows, gains_are_nothing, length_arcs, counted_as, mults_as}
use Rattle.pesp_bound.proofs.system.closing_pairs.Goals as goal

pub closing_way-requires-clause-within : goal.closing_way-requires-clause-within
closing_way-requires-clause-within c =
    let p = c.args.problem.now in
    let s = c.in-Some.system in
    let y : IsSystem (problem_net p) p.table c.args.node.now s.rows.items s.edges.items = rw c.in-Some.is at c.in_ok-system.ensures.system in
    let same = c.network-network.ensures.network in
    rw (c.deref.ensures.value, c.events.ensures.events, c.network-network.ensures.network)
    (within_of p c.args.node.now s.rows.items s.edges.items (rw same at c.events.ensures.limits) y)

pub returns-in-None-clause-decided : goal.returns-in-None-clause-decided
returns-in-None-clause-decided c d =
    let p = c.args.problem.now in
    let s = c.in-Some.system in
    let y : IsSystem (problem_net p) p.table c.args.node.now s.rows.items s.edges.items = rw c.in-Some.is at c.in_ok-system.ensures.system in
    let spans = rw c.network-network.ensures.network at c.rows-count.ensures.spans in
    let w : (h : ℕ → ℕ) × AreSettled c.deref.result.now h = rw c.in-None.is at c.in_ok-closing_way.ensures in
    not_settled p c.args.node.now s.rows.items s.edges.items w.0 spans.no_cycle y d
    (subst (λ (edges : List Edge). AreSettled edges w.0) c.deref.ensures.value w.1)

pub flows_along-requires-clause-places : goal.flows_along-requires-clause-places
flows_along-requires-clause-places c =
    let p = c.args.problem.now in
    let s = c.in-Some.system in
    let y : IsSystem (problem_net p) p.table c.args.node.now s.rows.items s.edges.items = rw c.in-Some.is at c.in_ok-system.ensures.system in
    let w : GainsForEver c.deref.result.now c.in-Some-2.way.items
    × (length c.in-Some-2.way.items ≤ 100000) = rw c.in-Some-2.is at c.in_ok-closing_way.ensures in
    let g : GainsForEver s.edges.items c.in-Some-2.way.items =
    subst (λ (edges : List Edge). GainsForEver edges c.in-Some-2.way.items) c.deref.ensures.value w.0 in
    rw (c.deref-in-Some-2-2.ensures.value, c.deref-in-Some-2.ensures.value)
    (way_places s.edges.items (length s.rows.items) c.in-Some-2.way.items g.0 g.0 y.demands.long g.1)

pub pairs_of-requires-clause-own : goal.pairs_of-requires-clause-own
pairs_of-requires-clause-own c =
    let p = c.args.problem.now in
    let flows = c.in_ok-flows-in-Some-2.flows in
    let long = c.in_ok-flows-in-Some-2.ensures.long in
    let is = c.deref-in-Some-2-3.ensures.len in
    let rows = ap length c.rows-count.ensures.rows in
    let network = ap (λ (n : NetworkValue). length n.rows) c.network-network.ensures.network in
    own_rows p (length c.deref-in-Some-2-3.result.now) c.table-table.result.now c.table-table.ensures.table
    (omega (arith, long, is, rows, network)) c.table-table.ensures.closed

pub pairs_of-requires-clause-small : goal.pairs_of-requires-clause-small
pairs_of-requires-clause-small c =
    let s = c.in-Some.system in
    let way = c.in-Some-2.way in
    let flows = c.in_ok-flows-in-Some-2.flows in
    let count = length c.rows-count.result.now in
    let w : GainsForEver c.deref.result.now way.items × (length way.items ≤ 100000) = rw c.in-Some-2.is at c.in_ok-closing_way.ensures in
    let counted : (i : ℕ) → i < count → slice_index_or flows.items i (pos 0)
    ≡ net_count (walk_along s.rows.items way.items) i =
    counted_as count s.rows.items c.deref-in-Some-2.result.now way.items c.deref-in-Some-2-2.result.now
    flows.items c.deref-in-Some-2.ensures.value c.deref-in-Some-2-2.ensures.value
    c.in_ok-flows-in-Some-2.ensures.flows in
    let long : length flows.items ≡ count = let l = flows.ok.0 in let e = c.in_ok-flows-in-Some-2.ensures.long in omega (arith, l, e) in
    rw c.deref-in-Some-2-3.ensures.value (small_along count s.rows.items way.items flows.items long w.1 counted)

pub returns-clause-decided : goal.returns-clause-decided
returns-clause-decided c d =
    let p = c.args.problem.now in
    let s = c.in-Some.system in
    let way = c.in-Some-2.way in
    let flows = c.in_ok-flows-in-Some-2.flows in
    let pairs = c.in_ok-pairs_of-in-Some-2.field-0 in
    let count = length c.rows-count.result.now in
    let y : IsSystem (problem_net p) p.table c.args.node.now s.rows.items s.edges.items = rw c.in-Some.is at c.in_ok-system.ensures.system in
    let spans = rw c.network-network.ensures.network at c.rows-count.ensures.spans in
    let w : GainsForEver c.deref.result.now way.items × (length way.items ≤ 100000) = rw c.in-Some-2.is at c.in_ok-closing_way.ensures in
    let g : GainsForEver s.edges.items way.items = subst (λ (edges : List Edge). GainsForEver edges way.items) c.deref.ensures.value w.0 in
    let counted : (i : ℕ) → i < count → slice_index_or flows.items i (pos 0)
    ≡ net_count (walk_along s.rows.items way.items) i =
    counted_as count s.rows.items c.deref-in-Some-2.result.now way.items c.deref-in-Some-2-2.result.now
    flows.items c.deref-in-Some-2.ensures.value c.deref-in-Some-2-2.ensures.value
    c.in_ok-flows-in-Some-2.ensures.flows in
    let rows : length (problem_net p).arcs ≡ count = let a = ap length c.rows-count.ensures.rows in
    let b = ap (λ (n : NetworkValue). length n.rows) c.network-network.ensures.network in
    omega (arith, a, b, length_arcs p) in
    let are : ArePairs (length p.table) pairs.items = rw c.table-table.ensures.table at c.in_ok-pairs_of-in-Some-2.ensures.pairs in
    let mults : AreCycleMultipliers (length p.table)
    (own_flow p.table (λ i. slice_index_or flows.items i (pos 0))) pairs.items =
    mults_as p.table c.table-table.result.now flows.items c.deref-in-Some-2-3.result.now pairs.items
    c.table-table.ensures.table c.deref-in-Some-2-3.ensures.value c.in_ok-pairs_of-in-Some-2.ensures.mults in
    gains_are_nothing p c.args.node.now s.rows.items s.edges.items way.items flows.items pairs.items spans.no_cycle
    c.table-table.ensures.closed y g (λ i l. counted i (omega (arith, l, rows))) are mults d

pub flows_along-requires-clause-exist : goal.flows_along-requires-clause-exist
flows_along-requires-clause-exist c = grind (arith, common_steps)

pub closing_way-requires-clause-few : goal.closing_way-requires-clause-few
closing_way-requires-clause-few c = grind (arith, common_steps)

pub pairs_of-requires-clause-few : goal.pairs_of-requires-clause-few
pairs_of-requires-clause-few c = grind (arith, common_steps)
