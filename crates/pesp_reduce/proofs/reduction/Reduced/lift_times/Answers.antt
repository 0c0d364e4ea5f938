use Rattle.std.proofs.Common.{◌≡◌, ◌<◌, ℕ, length, sym, subst, arith}
use Rattle.std.specs.Prelude.{slice_index}
use Rattle.std.proofs.lemmas.Grind.{common_steps}
use Rattle.pesp_problem.specs.Timetables.{IsTimetable, slack, cost, row_at}
use Rattle.pesp_problem.specs.Arcs.{arc_slack}
use Rattle.pesp_problem.specs.NetTimetables.{IsNetTimetable, net_cost}
use Rattle.pesp_network.specs.Networks.{net_row_at, arc_of_net, net_of_network}
use Rattle.pesp_reduce.specs.Reductions.{ReducedValue, origin_place}
use Rattle.pesp_reduce.proofs.Lifting.{are_lifted, lifted_whole, lifted_to, lifted_is_timetable, lifted_row_slacks, lifted_cost}
use Rattle.pesp_reduce.proofs.reduction.Reduced.lift_times.Goals as goal

pub unreachable-requires : goal.unreachable-requires
unreachable-requires c =
    let v = c.self.inside in
    let p = v.original in
    let k = c.period-period.ensures.limits in
    let times = c.args.times.now in
    let fates = v.fates.items in
    let are = are_lifted p fates c.as_slice-fates.result.now v.whole c.rows-rows.result.now v.contraction times
    c.as_slice-stands.result.now c.as_slice-shifts.result.now c.in_ok-slacks.slacks.items c.as_slice.result.now
    c.period-period.result
    c.period-period.ensures.period c.as_slice-stands.ensures.value c.as_slice-shifts.ensures.value
    c.rows-rows.ensures.rows c.as_slice-fates.ensures.value c.as_slice.ensures.value
    c.in_ok-slacks.ensures.each in
    let o = rw c.in-None.is at c.in_ok-lifted.ensures.none in
    o.open_each o.walk o.fundamental (lifted_whole p fates v.whole v.network v.contraction times
    (slice_index c.as_slice.result.now) o.walk k c.self.invariant are o.fundamental.closes)

pub returns : goal.returns
returns c =
    let v = c.self.inside in
    let p = v.original in
    let k = c.period-period.ensures.limits in
    let times = c.args.times.now in
    let fates = v.fates.items in
    let lifted = c.in-Some.lifted.items in
    let are = are_lifted p fates c.as_slice-fates.result.now v.whole c.rows-rows.result.now v.contraction times
    c.as_slice-stands.result.now c.as_slice-shifts.result.now c.in_ok-slacks.slacks.items c.as_slice.result.now
    c.period-period.result
    c.period-period.ensures.period c.as_slice-stands.ensures.value c.as_slice-shifts.ensures.value
    c.rows-rows.ensures.rows c.as_slice-fates.ensures.value c.as_slice.ensures.value
    c.in_ok-slacks.ensures.each in
    let given = subst (λ (r : ReducedValue). IsNetTimetable (net_of_network r.network) r.network.events times)
    (sym c.self.view_is) c.requires in
    let count = rw c.in-Some.is at c.in_ok-lifted.ensures.count in
    let below = rw c.in-Some.is at c.in_ok-lifted.ensures.below in
    let each = rw c.in-Some.is at c.in_ok-lifted.ensures.slacks in
    let size : length lifted ≡ v.whole.events = let s = c.in-Some.lifted.ok.0 in omega arith in
    let lt = lifted_to p fates v.whole v.network v.contraction times lifted
    (slice_index c.as_slice.result.now) c.self.invariant are size below each in
    let P : ReducedValue → Type 0 = λ r. IsTimetable r.original lifted in
    let Q : ReducedValue → Type 0 = λ r. (j : ℕ) → j < length r.network.rows
    → slack r.original.period lifted (row_at r.original.rows (origin_place r.network j))
    ≡ arc_slack r.network.period times (arc_of_net (net_row_at r.network.rows j)) in
    let R : ReducedValue → Type 0 = λ r. cost r.original.period r.original.rows lifted ≡ net_cost (net_of_network r.network) times in
    let V : ReducedValue = record {
      original = p;
      fates = fates;
      stands = v.contraction.stands.items;
      shifts = v.contraction.shifts.items;
      network = v.network;
    } in
    let is_timetable : P V = lifted_is_timetable p fates v.whole v.network v.contraction times lifted k c.self.invariant given lt in
    let are_slacks : Q V = λ j l. lifted_row_slacks p fates v.whole v.network v.contraction times lifted j k c.self.invariant given lt l in
    let costs : R V = lifted_cost p fates v.whole v.network v.contraction times lifted k c.self.invariant given lt in
    record {
      timetable = subst P c.self.view_is is_timetable;
      slacks = subst Q c.self.view_is are_slacks;
      cost = subst R c.self.view_is costs;
    }

pub lifted_slacks-requires-clause-count : goal.lifted_slacks-requires-clause-count
lifted_slacks-requires-clause-count c = grind (arith, common_steps)

pub lifted_slacks-requires-clause-fates : goal.lifted_slacks-requires-clause-fates
lifted_slacks-requires-clause-fates c = grind (arith, common_steps)

pub lifted_slacks-requires-clause-tails : goal.lifted_slacks-requires-clause-tails
lifted_slacks-requires-clause-tails c = grind (arith, common_steps)

pub lifted_slacks-requires-clause-heads : goal.lifted_slacks-requires-clause-heads
lifted_slacks-requires-clause-heads c = grind (arith, common_steps)

pub lifted_slacks-requires-clause-times : goal.lifted_slacks-requires-clause-times
lifted_slacks-requires-clause-times c = grind (arith, common_steps)

pub lifted_slacks-requires-clause-shifts : goal.lifted_slacks-requires-clause-shifts
lifted_slacks-requires-clause-shifts c = grind (arith, common_steps)

pub lifted_slacks-requires-clause-lowers : goal.lifted_slacks-requires-clause-lowers
lifted_slacks-requires-clause-lowers c = grind (arith, common_steps)

pub timetable_of-requires-clause-count : goal.timetable_of-requires-clause-count
timetable_of-requires-clause-count c = grind (arith, common_steps)

pub timetable_of-requires-clause-below : goal.timetable_of-requires-clause-below
timetable_of-requires-clause-below c = grind (arith, common_steps)
