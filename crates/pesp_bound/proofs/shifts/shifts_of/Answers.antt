use Rattle.std.proofs.Common.{◌≡◌, ◌+◌, ◌-◌, ◌<◌, List, [], length, get_or, ap, sym, ◌∙◌, arith}
use Rattle.std.proofs.lemmas.Grind.{common_steps}
use Rattle.std.proofs.lemmas.List.{get_or_default}
use Rattle.pesp_problem.specs.declared.row.SignedRow.{SignedRow}
use Rattle.pesp_problem.specs.Forests.{own_row}
use Rattle.pesp_problem.specs.Nodes.{cycle_at, offsets_left}
use Rattle.pesp_nodes.specs.Problems.{problem_net}
use Rattle.pesp_bound.proofs.Gathering.{shifts_more, own_row_names, small_set, as_shifts}
use Rattle.pesp_bound.proofs.shifts.shifts_of.Goals as goal

pub own_place-requires : goal.own_place-requires
own_place-requires c =
    let table = c.args.problem.now.table in
    let place = c.loop-place.place in
    let same = c.table-table.ensures.table in
    let within : place < length table = let t = c.loop-place-test.true in let e = ap length same in omega (arith, t, e) in
    let walk : c.index-table-place.result ≡ cycle_at table place = c.index-table-place.is
    ∙ ap (λ (x : List (List SignedRow)). get_or x place c.index-table-place.result) same
    ∙ get_or_default table place c.index-table-place.result [] within in
    let names = own_row_names (problem_net c.args.problem.now).arcs (cycle_at table place) (c.table-table.ensures.closed place [] within) in
    let e = ap own_row walk in
    let one = names.0 in
    omega (arith, e, one)

pub index_mut-requires : goal.index_mut-requires
index_mut-requires c =
    let table = c.args.problem.now.table in
    let place = c.loop-place.place in
    let same = c.table-table.ensures.table in
    let within : place < length table = let t = c.loop-place-test.true in let e = ap length same in omega (arith, t, e) in
    let walk : c.index-table-place.result ≡ cycle_at table place = c.index-table-place.is
    ∙ ap (λ (x : List (List SignedRow)). get_or x place c.index-table-place.result) same
    ∙ get_or_default table place c.index-table-place.result [] within in
    let names = own_row_names (problem_net c.args.problem.now).arcs (cycle_at table place) (c.table-table.ensures.closed place [] within) in
    let e = ap own_row walk in
    let o = c.own_place.ensures in
    let long = c.loop-place.invariant.long in
    let a = c.arcs.ensures.rows in
    let b = ap length c.arcs.ensures.arcs in
    omega (arith, e, names, o, long, a, b)

pub loop-place-preserved : goal.loop-place-preserved
loop-place-preserved c =
    let p = c.args.problem.now in
    let table = p.table in
    let place = c.loop-place.place in
    let same = c.table-table.ensures.table in
    let within : place < length table = let t = c.loop-place-test.true in let e = ap length same in omega (arith, t, e) in
    let walk : c.index-table-place.result ≡ cycle_at table place = c.index-table-place.is
    ∙ ap (λ (x : List (List SignedRow)). get_or x place c.index-table-place.result) same
    ∙ get_or_default table place c.index-table-place.result [] within in
    let names = own_row_names (problem_net p).arcs (cycle_at table place) (c.table-table.ensures.closed place [] within) in
    let is : c.own_place.result ≡ own_row (cycle_at table place) - 1 = c.own_place.ensures
    ∙ ap (λ (w : List SignedRow). own_row w - 1) walk in
    let back : place + 1 - 1 ≡ place = omega arith in
    let left = sym (ap (λ k. offsets_left (problem_net p) table c.args.node.now k) back) ∙ sym c.in-Some.ensures.value in
    let long = c.loop-place.invariant.long in
    let items = c.loop-place.shifts.ok.0 in
    let a = c.arcs.ensures.rows in
    let b = ap length c.arcs.ensures.arcs in
    record {
      long = long;
      shifts = shifts_more (problem_net p) table c.args.node.now place c.own_place.result c.in-Some.left
          c.loop-place.shifts.items names.0 is (omega (arith, items, long, names, is, a, b)) left
          c.loop-place.invariant.shifts;
      small = small_set p.network.period c.loop-place.shifts.items c.own_place.result c.in-Some.left
          c.loop-place.invariant.small c.in-Some.ensures.small;
    }

pub returns-clause-shifts : goal.returns-clause-shifts
returns-clause-shifts c =
    let end : c.loop-place.place ≡ length c.args.problem.now.table = let t = c.loop-place-test.false in
    let u = c.loop-place.auto.place-end in let e = ap length c.table-table.ensures.table in
    omega (arith, t, u, e) in
    as_shifts (problem_net c.args.problem.now) c.args.problem.now.table c.args.node.now c.loop-place.place
    c.loop-place.shifts.items (length c.args.problem.now.table) end c.loop-place.invariant.shifts

pub offset_range-requires-clause-cycle : goal.offset_range-requires-clause-cycle
offset_range-requires-clause-cycle c = grind (arith, common_steps)
