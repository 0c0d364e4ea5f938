use Rattle.std.proofs.Common.{◌<◌, ◌≤◌, sym, arith, ap, subst, length, ℕ, All}
use Rattle.std.specs.Prelude.{IfSome, slice_index}
use Rattle.pesp_problem.specs.NetTimetables.{IsNetTimetable}
use Rattle.pesp_network.specs.Networks.{NetworkValue, net_row_at, net_of_network}
use Rattle.pesp_network.proofs.Holding.{slacks_kept, within_spans, all_three}
use Rattle.pesp_network.proofs.network.Network.timetable_of.Goals as goal

pub timetable_of-requires-clause-slacks : goal.timetable_of-requires-clause-slacks
timetable_of-requires-clause-slacks c =
    let n = c.self.inside in let v = c.self.invariant in let e = c.self.view_is in
    let P : ℕ → Type 0 = λ p. All (λ y. y < p) c.args.slacks.now in
    let r = ap (λ (x : NetworkValue). length x.rows) e in let q = c.requires.count in
    slacks_kept (record { period = n.period; events = n.events; rows = n.rows.items; forest = n.kept.items })
    c.args.slacks.now c.as_slice.result.now c.as_slice.ensures.value v.limits (omega arith)
    (subst P (sym (ap (λ (x : NetworkValue). x.period) e)) c.requires.below)

pub returns-clause-timetable : goal.returns-clause-timetable
returns-clause-timetable c =
    let n = c.self.inside in
    let own : NetworkValue = record { period = n.period; events = n.events; rows = n.rows.items; forest = n.kept.items } in
    let P : NetworkValue → Type 0 = λ x. IfSome c.in_ok-found.found
    (λ times. ((i : ℕ) → i < length x.rows → slice_index c.args.slacks.now i ≤ (net_row_at x.rows i).span)
    → IsNetTimetable (net_of_network x) x.events times.items) in
    subst P c.self.view_is (all_three c.in_ok-found.found c.in_ok-found.ensures.count c.in_ok-found.ensures.below
    c.in_ok-found.ensures.slacks
    (λ times long below same. within_spans own c.as_slice.result.now c.args.slacks.now times.items
    c.as_slice.ensures.value (omega (arith, long, times.ok.0)) below same))
