-- Costs are small, so that what is told of a value compares with each of them as the value does.
use Rattle.std.proofs.Common.{ℕ, ◌*◌, ◌<◌, ◌≤◌, List, get_or, arith}
use Rattle.std.specs.Prelude.{ℤ, pos, negsuc, ◌-ℤ◌, ◌≤ℤ◌, ◌↔◌, All}
use Rattle.std.proofs.lemmas.Int.{ints}
use Rattle.std.proofs.lemmas.List.{length-map}
use Rattle.std.proofs.lemmas.List.Sums.{sum_by-le}
use Rattle.std.proofs.Math.Nat.{mul-le-mul}
use Rattle.pesp_problem.specs.declared.arc.Arc.{Arc}
use Rattle.pesp_problem.specs.Timetables.{difference}
use Rattle.pesp_problem.specs.Arcs.{arc_slack}
use Rattle.pesp_problem.specs.NetTimetables.{net_cost}
use Rattle.pesp_problem.proofs.Integers.{remainder-lt}
use Rattle.pesp_network.specs.Networks.{NetworkValue, arc_of_net, arcs_of_network, net_of_network, KeepsNetLimits}
use Rattle.pesp_nodes.specs.Offsets.{AreArcs}
use Rattle.pesp_nodes.proofs.Keeping.{arcs_small}
use Rattle.pesp_tree.specs.BoardLeaves.{told}

-- what is told of a value isn't above it
pub told-le : (v : ℤ) → pos 0 ≤ℤ v → pos (told v) ≤ℤ v
told-le (pos v) h = omega (arith, ints)
told-le (negsuc v) h = absurd (omega (arith, ints))

pub told_alike : (value : ℤ) (c : ℕ) → pos 0 ≤ℤ value → c ≤ 999999999999999999 → (pos c ≤ℤ value) ↔ (c ≤ told value)
told_alike (pos v) c h k = (λ l. omega (arith, ints), λ l. omega (arith, ints))
told_alike (negsuc v) c h k = absurd (omega (arith, ints))

pub costs_are_small : (n : NetworkValue) (times : List ℕ) → KeepsNetLimits n → net_cost (net_of_network n) times ≤ 999900000000000000
costs_are_small n times limits =
    let arcs = arcs_of_network n.rows in
    let worth : Arc → ℕ = λ arc. arc.weight * arc_slack n.period times arc in
    let small : AreArcs arcs = arcs_small n limits in
    let each : All (λ arc. worth arc ≤ 1000000000 * 9999) arcs = λ i d l.
    let arc = get_or arcs i d in
    let slack : arc_slack n.period times arc < n.period =
    remainder-lt (difference times arc.tail arc.head -ℤ arc.lower) n.period
    (let some = limits.some_period in omega arith) in
    let least : arc_slack n.period times arc ≤ 9999 = (let most = limits.period_most in omega arith) in
    mul-le-mul (small i d l).2 least in
    let rows = limits.rows_most in
    omega (arith, sum_by-le worth (1000000000 * 9999) arcs each, length-map n.rows arc_of_net, rows)
