use Rattle.std.proofs.Common.{◌≡◌, ℕ, List, length, sym, subst, arith}
use Rattle.pesp_problem.specs.NetTimetables.{IsNetTimetable, net_cost}
use Rattle.pesp_problem.specs.Timetables.{cost}
use Rattle.pesp_network.specs.Networks.{NetworkValue, net_of_network}
use Rattle.pesp_turns.proofs.Closings.{none_is_open, found}
use Rattle.pesp_turns.proofs.settled_leaf.settled_times.Goals as goal

pub returns-in_default : goal.returns-in_default
returns-in_default c p s = none_is_open p c.args.reduced.now c.args.node.now c.in_ok-left.left.items
    c.deref.result.now c.network-network.result.now c.whole_offsets_leave_no_row_open.ensures s
    (c.in_ok-left.ensures.slacks p s) c.deref.ensures.value c.network-network.ensures.network
    (rw c.in_default.is at c.in_ok-times.ensures.none)

pub returns-then-not-is_timetable : goal.returns-then-not-is_timetable
returns-then-not-is_timetable c p s =
    let r = c.args.reduced.now in
    let times = c.in-Some.times.items in
    let below = rw c.in-Some.is at c.in_ok-times.ensures.below in
    let each = rw c.in-Some.is at c.in_ok-times.ensures.slacks in
    let size : length times ≡ c.network-network.result.now.events = let s = c.in-Some.times.ok.0 in
    let count = rw c.in-Some.is at c.in_ok-times.ensures.count in omega arith in
    let are = found p r c.args.node.now c.in_ok-left.left.items c.deref.result.now times
    c.network-network.result.now s (c.in_ok-left.ensures.slacks p s) c.deref.ensures.value
    c.network-network.ensures.network size below each in
    let there = subst (λ (n : NetworkValue). IsNetTimetable (net_of_network n) n.events c.deref-2.result.now)
    (sym c.network-network.ensures.network) (subst (IsNetTimetable (net_of_network r.network) r.network.events)
    (sym c.deref-2.ensures.value) are.timetable) in
    let yes = c.is_timetable.ensures.1 there in
    let not = c.if-not-is_timetable.true in
    cc

pub returns : goal.returns
returns c p s =
    let r = c.args.reduced.now in
    let times = c.in-Some.times.items in
    let below = rw c.in-Some.is at c.in_ok-times.ensures.below in
    let each = rw c.in-Some.is at c.in_ok-times.ensures.slacks in
    let size : length times ≡ c.network-network.result.now.events = let s = c.in-Some.times.ok.0 in
    let count = rw c.in-Some.is at c.in_ok-times.ensures.count in omega arith in
    let are = found p r c.args.node.now c.in_ok-left.left.items c.deref.result.now times
    c.network-network.result.now s (c.in_ok-left.ensures.slacks p s) c.deref.ensures.value
    c.network-network.ensures.network size below each in
    record {
      left = c.in_ok-left.left.items;
      slacks = c.in_ok-left.ensures.slacks p s;
      times = times;
      same = are.same;
      timetable = c.in_ok-lifted.ensures.timetable;
      costs = subst (λ (xs : List ℕ). cost r.original.period r.original.rows c.in_ok-lifted.lifted.items
          ≡ net_cost (net_of_network r.network) xs) c.deref-3.ensures.value c.in_ok-lifted.ensures.cost;
    }
