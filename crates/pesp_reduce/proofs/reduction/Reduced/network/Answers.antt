use Rattle.std.proofs.Common.{◌≡◌, ◌<◌, ℕ, length, subst, All}
use Rattle.pesp_problem.specs.Walks.{Names}
use Rattle.pesp_problem.specs.Forests.{IsBridge}
use Rattle.pesp_network.specs.Networks.{net_row_at, arc_of_net, arcs_of_network}
use Rattle.pesp_reduce.specs.Rows.{IsFree}
use Rattle.pesp_reduce.specs.Reductions.{ReducedValue, IsReducedRow, AreKeptRows, AreFatesOf, AreMerged, AreForEvents, HaveNoContractedCycle}
use Rattle.pesp_reduce.proofs.Results.{reduced_row, none_free, none_fixed, no_contracted_cycle}
use Rattle.pesp_reduce.proofs.Fated.{kept_in_order, fates_are_right, are_merged, are_for_events}
use Rattle.pesp_reduce.proofs.reduction.Reduced.network.Goals as goal

pub returns-clause-period : goal.returns-clause-period
returns-clause-period c =
    let v = c.self.inside in
    let P : ReducedValue → Type 0 = λ r. r.network.period ≡ r.original.period in
    subst P c.self.view_is (c.self.invariant.period)

pub returns-clause-no_bridge : goal.returns-clause-no_bridge
returns-clause-no_bridge c =
    let v = c.self.inside in
    let P : ReducedValue → Type 0 = λ r. (row : ℕ) → Names (length r.network.rows) row
    → IsBridge (arcs_of_network r.network.rows) row → ⊥ in
    subst P c.self.view_is (c.self.invariant.no_bridge)

pub returns-clause-no_free : goal.returns-clause-no_free
returns-clause-no_free c =
    let v = c.self.inside in
    let P : ReducedValue → Type 0 = λ r. (j : ℕ) → j < length r.network.rows
    → IsFree r.network.period (arc_of_net (net_row_at r.network.rows j)) → ⊥ in
    subst P c.self.view_is (λ j l. none_free v.original v.fates.items v.whole v.network v.contraction j c.self.invariant l)

pub returns-clause-no_fixed : goal.returns-clause-no_fixed
returns-clause-no_fixed c =
    let v = c.self.inside in
    let P : ReducedValue → Type 0 = λ r. (j : ℕ) → j < length r.network.rows
    → (net_row_at r.network.rows j).span ≡ 0 → (net_row_at r.network.rows j).tail
    ≡ (net_row_at r.network.rows j).head in
    subst P c.self.view_is (λ j l. none_fixed v.original v.fates.items v.whole v.network v.contraction j c.self.invariant l)

pub returns-clause-rows : goal.returns-clause-rows
returns-clause-rows c =
    let v = c.self.inside in
    let P : ReducedValue → Type 0 = λ r. (j : ℕ) → j < length r.network.rows → IsReducedRow r j in
    subst P c.self.view_is (λ j l. reduced_row v.original v.fates.items v.whole v.network v.contraction j c.self.invariant l)

pub returns-clause-kept : goal.returns-clause-kept
returns-clause-kept c =
    let v = c.self.inside in
    let P : ReducedValue → Type 0 = λ r. AreKeptRows r in
    subst P c.self.view_is (kept_in_order v.original v.fates.items v.whole v.network v.contraction c.self.invariant)

pub returns-clause-fates : goal.returns-clause-fates
returns-clause-fates c =
    let v = c.self.inside in
    let P : ReducedValue → Type 0 = λ r. AreFatesOf r.original r.fates in
    subst P c.self.view_is (fates_are_right v.original v.fates.items v.whole v.network v.contraction c.self.invariant)

pub returns-clause-merged : goal.returns-clause-merged
returns-clause-merged c =
    let v = c.self.inside in
    let P : ReducedValue → Type 0 = λ r. AreMerged r in
    subst P c.self.view_is (are_merged v.original v.fates.items v.whole v.network v.contraction c.self.invariant)

pub returns-clause-lengths : goal.returns-clause-lengths
returns-clause-lengths c =
    let v = c.self.inside in
    let P : ReducedValue → Type 0 = λ r. AreForEvents r in
    subst P c.self.view_is (are_for_events v.original v.fates.items v.whole v.network v.contraction c.self.invariant)

pub returns-clause-shifts : goal.returns-clause-shifts
returns-clause-shifts c =
    let v = c.self.inside in
    let P : ReducedValue → Type 0 = λ r. All (λ t. t < r.original.period) r.shifts in
    subst P c.self.view_is (c.self.invariant.contraction.shifts.below)

pub returns-clause-no_cycle : goal.returns-clause-no_cycle
returns-clause-no_cycle c =
    let v = c.self.inside in
    let P : ReducedValue → Type 0 = λ r. HaveNoContractedCycle r in
    subst P c.self.view_is (no_contracted_cycle v.original v.fates.items v.whole v.network v.contraction c.self.invariant)
