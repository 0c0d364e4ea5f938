-- What holds after any list of events.
use Rattle.std.proofs.Common.{◌<◌, ◌≡◌, List, arith}
use Rattle.std.specs.Prelude.{All, None}
use Rattle.pesp_problem.specs.Limits.{KeepsLimits}
use Rattle.pesp_problem.specs.Timetables.{Pesp}
use Rattle.pesp_problem.specs.Walks.{IsWalk}
use Rattle.pesp_truth.specs.Certificates.{Content, IsValid}
use Rattle.pesp_network.specs.Networks.{KeepsNetLimits}
use Rattle.pesp_nodes.specs.Problems.{ProblemValue, problem_net, IsSmallTable}
use Rattle.pesp_tree.specs.States.{State, opening, least, best_cost, IsAtMost}
use Rattle.pesp_tree.specs.Reached.{IsKept, IsOrderly}
use Rattle.pesp_tree.specs.Events.{Event, Step, Run}
use Rattle.pesp_tree.specs.Certificates.{IsProblemOf, IsCertificateOf}
use Rattle.pesp_tree.proofs.EventChanges.{Change, change_of, run_keeps}
use Rattle.pesp_tree.proofs.EventSteps.{opening_is_kept, change_goes_on, run_goes_on}
use Rattle.pesp_tree.proofs.TreeLimits.{opening_keeps_limits, change_keeps_limits}
use Rattle.pesp_tree.proofs.Lending.{opening_is_apart, change_keeps_apart}
use Rattle.pesp_tree.proofs.Certified.{kept_is_valid}

pub states_are_kept : (p : ProblemValue) (events : List Event) (state : State) → 0 < p.network.period
    → Run p opening events state → IsKept p state
states_are_kept p events state h r = (run_goes_on p events opening state h (opening_is_kept p) r).kept

pub runs_are_valid : (i : Pesp) (p : ProblemValue) (events : List Event) (state : State) (content : Content)
    → KeepsLimits i → IsProblemOf i p → All (IsWalk (problem_net p).arcs) p.table → Run p opening events state
    → IsCertificateOf p i.events state content → IsValid None i content
runs_are_valid i p events state content l o w r c =
    kept_is_valid i p state content l o w (states_are_kept p events state
    (let e : p.network.period ≡ i.period = o.period in let some = l.some_period in omega arith) r) c

pub least_never_falls : (p : ProblemValue) (events : List Event) (old new : State) → 0 < p.network.period
    → IsKept p old → Run p old events new → IsAtMost (least p old) (least p new)
least_never_falls p events old new h k r = (run_goes_on p events old new h k r).tightens.least

pub best_never_rises : (p : ProblemValue) (events : List Event) (old new : State) → 0 < p.network.period
    → IsKept p old → Run p old events new → IsAtMost (best_cost p new) (best_cost p old)
best_never_rises p events old new h k r = (run_goes_on p events old new h k r).tightens.best

-- ---- all that holds of every state

pub opening_is_orderly : (p : ProblemValue) → IsOrderly p opening
opening_is_orderly p = record { kept = opening_is_kept p; limits = opening_keeps_limits p; lent = opening_is_apart }

change_is_orderly : (p : ProblemValue) → KeepsNetLimits p.network → IsSmallTable p.table → (old new : State)
    → IsOrderly p old → Change p old new → IsOrderly p new
change_is_orderly p limits small old new k c = record {
  kept = (change_goes_on p old new (let some = limits.some_period in omega arith) k.kept c).kept;
  limits = change_keeps_limits p limits small old new k.limits c;
  lent = change_keeps_apart p old new k.lent c;
}

pub step_is_orderly : (p : ProblemValue) (old : State) (event : Event) (new : State) → KeepsNetLimits p.network
    → IsSmallTable p.table → IsOrderly p old → Step p old event new → IsOrderly p new
step_is_orderly p old event new limits small k s = change_is_orderly p limits small old new k (change_of p old event new s)

pub run_is_orderly : (p : ProblemValue) (events : List Event) (old new : State) → KeepsNetLimits p.network
    → IsSmallTable p.table → IsOrderly p old → Run p old events new → IsOrderly p new
run_is_orderly p events old new limits small k r = run_keeps p (IsOrderly p) (change_is_orderly p limits small) events old new k r
