-- Propagation from full sets tells whether a node is shut.
use Rattle.std.proofs.Common.{◌≡◌, ℕ, ◌<◌, List, arith, subst, Bool}
use Rattle.std.specs.Prelude.{◌↔◌, IsTrue, IfOk, Result, Ok, Err, None}
use Rattle.std.proofs.lemmas.List.Elements.{All-map}
use Rattle.pesp_problem.specs.Nodes.{Node}
use Rattle.pesp_problem.specs.Families.{NoFamilyIsSupported}
use Rattle.pesp_network.specs.declared.row.NetRow.{NetRow}
use Rattle.pesp_network.specs.Networks.{NetworkValue, KeepsNetLimits, RowKeepsNetLimits, arc_of_net, net_of_network}
use Rattle.pesp_truth.specs.Trees.{Plain, ByPropagation}
use Rattle.pesp_truth.proofs.Events.{any_count}
use Rattle.pesp_nodes.specs.Problems.{ProblemValue, problem_net}
use Rattle.pesp_tree.specs.Events.{MayShut}

ends_exist : (events : ℕ) (period : ℕ) (row : NetRow) → RowKeepsNetLimits period events row
    → ((arc_of_net row).tail < events) × ((arc_of_net row).head < events)
ends_exist events period row h = (h.tail, h.head)

-- a node is shut by propagation exactly where no family of the network's events is supported
pub may_shut : (p : ProblemValue) (node : Node) → KeepsNetLimits p.network
    → MayShut p node ByPropagation ↔ NoFamilyIsSupported (problem_net p) node.slacks p.network.events
may_shut p node limits =
    let some : 0 < p.network.period = let least = limits.some_period in omega arith in
    let counted = any_count (Plain None) (problem_net p) p.table node p.network.events some
    (All-map (λ arc. (arc.tail < p.network.events) × (arc.head < p.network.events)) arc_of_net p.network.rows
    (λ i d l. ends_exist p.network.events p.network.period _ (limits.each i d l))) in
    (λ shut. counted.0 shut.1, λ none. (tt, counted.1 none))

-- and that is what is told
pub told : (p : ProblemValue) (node : Node) (network : NetworkValue) (slacks : List (ℕ × ℕ)) (shut : Bool)
    → KeepsNetLimits p.network → network ≡ p.network → slacks ≡ node.slacks
    → IsTrue shut ↔ NoFamilyIsSupported (net_of_network network) slacks network.events
    → IsTrue shut ↔ MayShut p node ByPropagation
told p node network slacks shut limits e f tells =
    let same : NoFamilyIsSupported (net_of_network network) slacks network.events
    ↔ NoFamilyIsSupported (problem_net p) node.slacks p.network.events =
    subst (λ (n : NetworkValue). NoFamilyIsSupported (net_of_network network) slacks network.events
    ↔ NoFamilyIsSupported (net_of_network n) node.slacks n.events) e
    (subst (λ (x : List (ℕ × ℕ)). NoFamilyIsSupported (net_of_network network) slacks network.events
    ↔ NoFamilyIsSupported (net_of_network network) x network.events) f (λ h. h, λ h. h)) in
    let is = may_shut p node limits in
    (λ h. is.1 (same.0 (tells.0 h)), λ h. tells.1 (same.1 (is.0 h)))

pub told_ok : {E : Type 0} (p : ProblemValue) (node : Node) (network : NetworkValue) (slacks : List (ℕ × ℕ))
    (result : Result Bool E) → KeepsNetLimits p.network → network ≡ p.network → slacks ≡ node.slacks
    → IfOk result (λ none. IsTrue none ↔ NoFamilyIsSupported (net_of_network network) slacks network.events)
    → IfOk result (λ shut. IsTrue shut ↔ MayShut p node ByPropagation)
told_ok p node network slacks (Ok shut) limits e f tells = told p node network slacks shut limits e f tells
told_ok p node network slacks (Err refusal) limits e f tells = tells
