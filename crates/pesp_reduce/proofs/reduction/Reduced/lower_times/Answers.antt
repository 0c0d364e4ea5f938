use Rattle.std.proofs.Common.{◌≡◌, ◌<◌, ℕ, length, map, ap, sym, ◌∙◌, subst, List, arith}
use Rattle.std.proofs.lemmas.Grind.{common_steps}
use Rattle.pesp_problem.specs.Timetables.{IsTimetable, slack, row_at}
use Rattle.pesp_problem.specs.Arcs.{arc_slack}
use Rattle.pesp_problem.specs.NetTimetables.{IsNetTimetable}
use Rattle.pesp_network.specs.Networks.{net_row_at, arc_of_net, net_of_network}
use Rattle.pesp_reduce.specs.Reductions.{ReducedValue, origin_place}
use Rattle.pesp_reduce.specs.Times.{lowered_time}
use Rattle.pesp_reduce.proofs.Lifting.{lowered_is_timetable, lowered_slacks}
use Rattle.pesp_reduce.proofs.reduction.Reduced.lower_times.Goals as goal

pub returns : goal.returns
returns c =
    let v = c.self.inside in
    let p = v.original in
    let k = c.period-period.ensures.limits in
    let times = c.args.times.now in
    let made = c.in_ok-lowered_times.field-0.items in
    let H = v.contraction.shifts.items in
    let F = v.contraction.firsts.items in
    let made_is : made ≡ map (lowered_time p.period times H) F = c.in_ok-lowered_times.ensures
    ∙ ap (λ m. map (lowered_time m times c.as_slice-shifts.result.now) c.as_slice-firsts.result.now) c.period-period.ensures.period
    ∙ ap (λ xs. map (lowered_time p.period times xs) c.as_slice-firsts.result.now) c.as_slice-shifts.ensures.value
    ∙ ap (map (lowered_time p.period times H)) c.as_slice-firsts.ensures.value in
    let given = subst (λ (r : ReducedValue). IsTimetable r.original times) (sym c.self.view_is) c.requires in
    let P : ReducedValue → List ℕ → Type 0 = λ r xs. IsNetTimetable (net_of_network r.network) r.network.events xs in
    let Q : ReducedValue → List ℕ → Type 0 = λ r xs. (j : ℕ) → j < length r.network.rows
    → arc_slack r.network.period xs (arc_of_net (net_row_at r.network.rows j))
    ≡ slack r.original.period times (row_at r.original.rows (origin_place r.network j)) in
    let V : ReducedValue = record {
      original = p;
      fates = v.fates.items;
      stands = v.contraction.stands.items;
      shifts = H;
      network = v.network;
    } in
    let is_timetable : P V made = subst (P V) (sym made_is)
    (lowered_is_timetable p v.fates.items v.whole v.network v.contraction times k c.self.invariant given) in
    let are_slacks : Q V made = subst (Q V) (sym made_is)
    (λ j l. lowered_slacks p v.fates.items v.whole v.network v.contraction times j k c.self.invariant given
    l) in
    record {
      timetable = subst (λ r. P r made) c.self.view_is is_timetable;
      slacks = subst (λ r. Q r made) c.self.view_is are_slacks;
    }

pub lowered_times-requires-clause-some : goal.lowered_times-requires-clause-some
lowered_times-requires-clause-some c = grind (arith, common_steps)

pub lowered_times-requires-clause-most : goal.lowered_times-requires-clause-most
lowered_times-requires-clause-most c = grind (arith, common_steps)

pub lowered_times-requires-clause-times : goal.lowered_times-requires-clause-times
lowered_times-requires-clause-times c = grind (arith, common_steps)

pub lowered_times-requires-clause-shifts : goal.lowered_times-requires-clause-shifts
lowered_times-requires-clause-shifts c = grind (arith, common_steps)

pub lowered_times-requires-clause-count : goal.lowered_times-requires-clause-count
lowered_times-requires-clause-count c = grind (arith, common_steps)
