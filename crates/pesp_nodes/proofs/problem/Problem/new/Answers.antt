use Rattle.std.proofs.Common.{◌≡◌, ◌≤◌, refl, ap, arith, List, length, All}
use Rattle.std.proofs.lemmas.Grind.{common_steps}
use Rattle.std.proofs.lemmas.List.{length-map}
use Rattle.std.proofs.lemmas.List.Sums.{get_or-le-sum_by}
use Rattle.pesp_problem.specs.declared.row.SignedRow.{SignedRow}
use Rattle.pesp_network.specs.Networks.{arc_of_net}
use Rattle.pesp_nodes.specs.Passages.{ArePassages}
use Rattle.pesp_problem.specs.Nets.{AreNets}
use Rattle.pesp_problem.proofs.Counts.{nets_small}
use Rattle.pesp_nodes.proofs.problem.Problem.new.Goals as goal

pub root_bounds-requires : goal.root_bounds-requires
root_bounds-requires c =
    let table = c.args.table.items in
    let count = length c.args.network.rows in
    let by_row = c.in_ok-by_row.by_row.items in
    let rows : length c.arcs-arcs.result.now ≡ count =
    omega (arith, ap length c.arcs-arcs.ensures.arcs, length-map c.args.network.rows arc_of_net) in
    let cycles : c.len.result ≡ length table = omega (arith, c.len.ensures, c.args.table.ok.0) in
    let passages : ArePassages count (length table) table by_row = rw (rows, c.deref-2.ensures.value) at c.in_ok-by_row.ensures.passages in
    let small = rw (c.deref.ensures.value) at c.in_ok-judge.ensures.small in
    let most = small.rows in
    let short : All (λ walk. length walk ≤ 10000000) table =
    λ k d l. omega (arith, get_or-le-sum_by {X = List SignedRow} length table k d l) in
    let long : length by_row ≡ count = passages.long in
    let counts = rw (c.deref-3.ensures.value, long, cycles) at c.in_ok-nets.ensures in
    let nets : AreNets count table c.in_ok-nets.nets.items = counts table refl short passages in
    rw c.deref-4.ensures.value (nets_small count table c.in_ok-nets.nets.items nets)

pub invariant_of-result : goal.invariant_of-result
invariant_of-result c =
    let table = c.args.table.items in
    let count = length c.args.network.rows in
    let by_row = c.in_ok-by_row.by_row.items in
    let rows : length c.arcs-arcs.result.now ≡ count =
    omega (arith, ap length c.arcs-arcs.ensures.arcs, length-map c.args.network.rows arc_of_net) in
    let cycles : c.len.result ≡ length table = omega (arith, c.len.ensures, c.args.table.ok.0) in
    let passages : ArePassages count (length table) table by_row = rw (rows, c.deref-2.ensures.value) at c.in_ok-by_row.ensures.passages in
    let small = rw (c.deref.ensures.value) at c.in_ok-judge.ensures.small in
    let most = small.rows in
    let short : All (λ walk. length walk ≤ 10000000) table =
    λ k d l. omega (arith, get_or-le-sum_by {X = List SignedRow} length table k d l) in
    let long : length by_row ≡ count = passages.long in
    let counts = rw (c.deref-3.ensures.value, long, cycles) at c.in_ok-nets.ensures in
    let nets : AreNets count table c.in_ok-nets.nets.items = counts table refl short passages in
    record {
      limits = c.arcs-arcs.ensures.limits;
      closed = rw (c.arcs-arcs.ensures.arcs, c.deref.ensures.value) at c.in_ok-judge.ensures.closed;
      small = small;
      counts = nets;
      passages = passages;
      at_root = c.in_ok-bounds.ensures.offsets table (rw c.deref-4.ensures.value nets);
      ends = c.in_ok-bounds.ensures.ends;
      between = c.in_ok-bounds.ensures.small;
    }

pub passages_of_table-requires-clause-short : goal.passages_of_table-requires-clause-short
passages_of_table-requires-clause-short c = grind (arith, common_steps)
