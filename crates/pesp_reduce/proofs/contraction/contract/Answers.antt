use Rattle.std.proofs.Common.{◌≡◌, ◌<◌, ℕ, length, subst, arith, List, All, Bool}
use Rattle.pesp_problem.specs.Arcs.{slacks_at}
use Rattle.pesp_network.specs.declared.row.NetRow.{NetRow}
use Rattle.pesp_network.specs.Networks.{arcs_of_network}
use Rattle.pesp_reduce.specs.Contractions.{AreTree, AreShifts, IsStanding}
use Rattle.pesp_reduce.proofs.Trees.{tree_whole}
use Rattle.pesp_reduce.proofs.Contracting.{are_shifts, are_together}
use Rattle.pesp_reduce.proofs.contraction.contract.Goals as goal

pub tree_of-requires : goal.tree_of-requires
tree_of-requires c = rw c.as_slice.ensures.value c.in_ok-contracted.ensures

pub shifts_of-requires : goal.shifts_of-requires
shifts_of-requires c =
    let n = c.args.whole.now in
    let T = c.in_ok-tree.tree in
    let flags = c.in_ok-contracted.contracted.items in
    λ slacks walk none w. tree_whole T.period n.rows T.rows flags slacks walk
    (rw c.as_slice.ensures.value at c.in_ok-tree.ensures.tree) none w

shifts_from : (period own events : ℕ) (rows tree : List NetRow) (flags : List Bool) (shifts : List ℕ)
    → own ≡ period → 0 < period → AreTree rows tree flags → length shifts ≡ events → All (λ t. t < own) shifts
    → ((i : ℕ) → i < length tree → slacks_at (record { period = own; arcs = arcs_of_network tree }) shifts i ≡ 0)
    → AreShifts period events rows flags shifts
shifts_from period own events rows tree flags shifts e h t n b none =
    are_shifts period events rows tree flags shifts h t n (subst (λ p. All (λ y. y < p) shifts) e b)
    (subst (λ p. (i : ℕ) → i < length tree → slacks_at
    (record { period = p; arcs = arcs_of_network tree }) shifts i ≡ 0) e none)

pub returns : goal.returns
returns c =
    let n = c.args.whole.now in
    let flags = c.in_ok-contracted.contracted.items in
    let f = c.in_ok-contracted.ensures in
    let limits = c.in_ok-tree.ensures.limits in
    let T = c.in_ok-tree.tree in
    let t : AreTree n.rows T.rows flags = rw c.as_slice.ensures.value at c.in_ok-tree.ensures.tree in
    let S = c.in_ok-stands.field-0 in
    let standing : IsStanding (arcs_of_network T.rows) n.events S.stands.items S.firsts.items =
    subst (λ k. IsStanding (arcs_of_network T.rows) k S.stands.items S.firsts.items)
    c.in_ok-tree.ensures.events c.in_ok-stands.ensures in
    let shifts = c.in_ok-shifts.shifts.items in
    let shift_count : length shifts ≡ n.events = let k = c.in_ok-shifts.shifts.ok.0 in
    let m = c.in_ok-shifts.ensures.count in let e = c.in_ok-tree.ensures.events in omega arith in
    let some : 0 < n.period = let p = limits.some_period in omega arith in
    record {
      tree_period = c.in_ok-tree.ensures.period;
      tree_events = c.in_ok-tree.ensures.events;
      tree = t;
      shifts = shifts_from n.period T.period n.events n.rows T.rows flags shifts c.in_ok-tree.ensures.period some t
          shift_count c.in_ok-shifts.ensures.below c.in_ok-shifts.ensures.slacks;
      standing = standing;
      together = are_together n.period n.events n.rows T.rows f.0 flags S.stands.items S.firsts.items f.1 f.2 t limits.each standing;
    }
