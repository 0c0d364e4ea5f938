use Rattle.std.proofs.Common.{◌≡◌, ℕ, ◌-◌, List, [], length, ap, ◌∙◌, arith}
use Rattle.std.proofs.lemmas.Grind.{common_steps}
use Rattle.std.specs.Prelude.{ℤ, pos, unsigned_abs, slice_index_or}
use Rattle.std.proofs.lemmas.List.{get_or_default}
use Rattle.pesp_problem.specs.declared.row.SignedRow.{SignedRow}
use Rattle.pesp_problem.specs.Forests.{own_row}
use Rattle.pesp_problem.specs.Nodes.{cycle_at}
use Rattle.pesp_bound.specs.Differences.{own_flow}
use Rattle.pesp_bound.proofs.Gathering.{pairs_more}
use Rattle.pesp_bound.proofs.closed_way.pairs_of.Goals as goal

pub loop-c-preserved : goal.loop-c-preserved
loop-c-preserved c =
    let table = c.args.table.now in
    let k = c.loop-c.c in
    let flow : ℕ → ℤ = λ i. slice_index_or c.args.flows.now i (pos 0) in
    let within = c.loop-c-test.true in
    let walk : c.index-table-c.result ≡ cycle_at table k = c.index-table-c.is ∙ get_or_default table k c.index-table-c.result [] within in
    let place : c.own_place.result ≡ own_row (cycle_at table k) - 1 = c.own_place.ensures
    ∙ ap (λ (w : List SignedRow). own_row w - 1) walk in
    let same : flow c.own_place.result ≡ own_flow table flow k = ap flow place in
    let amount = ap unsigned_abs same in
    let some = c.if-is_zero.ensures in
    let names = c.requires.own k [] within in
    let most = c.requires.small (own_row (cycle_at table k) - 1) (pos 0) (omega (arith, names)) in
    rw c.in_ok-push.ensures.items (pairs_more (length table)
    (own_flow table flow) k c.loop-c.pairs.items c.pair_of.result within c.pair_of.ensures.cycle
    (c.pair_of.ensures.mult ∙ same) (omega (arith, some, amount)) most c.loop-c.invariant)

pub own_place-requires : goal.own_place-requires
own_place-requires c = grind (arith, common_steps)

pub bounds-flows-own_place : goal.bounds-flows-own_place
bounds-flows-own_place c = grind (arith, common_steps)
