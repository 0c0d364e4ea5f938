use Rattle.std.proofs.Common.{arith, FitsSigned, ◌-◌, ◌<◌, ◌∙◌, ap, length}
use Rattle.std.specs.Prelude.{◌+ℤ◌, ◌*ℤ◌, List}
use Rattle.std.specs.Int.{w64}
use Rattle.std.proofs.lemmas.Int.{ints, to_z-of_z}
use Rattle.pesp_problem.specs.declared.nets.NetCount.{NetCount}
use Rattle.pesp_problem.specs.Nets.{count_of}
use Rattle.pesp_problem.specs.Terms.{number_at}
use Rattle.pesp_problem.proofs.Flowing.{nets_read}
use Rattle.pesp_leaves.proofs.Flowing.{pairs_apart, made_more}
use Rattle.pesp_leaves.proofs.flows.add_flows.Goals as goal

pub loop-pair-preserved : goal.loop-pair-preserved
loop-pair-preserved g c =
    let elements = g.P.Elements.elements in
    let p = c.in-Some.pair in
    let exists = (pairs_apart (length c.args.table.now) (elements c.loop-pair.left)
    (elements c.take_next.new.self) p c.in-Some.ensures c.loop-pair.invariant.exist).0 in
    let fits : FitsSigned w64 p.mult = omega (arith, ints, exists.1) in
    let at : p.cycle - 1 < length c.args.table.now = omega (arith, exists.0) in
    let read = nets_read c.args.table.now (p.cycle - 1) c.counts.result.now c.index-table-pair.result at
    c.index-table-pair.is c.counts.ensures in
    let sum = rw (to_z-of_z w64 p.mult fits) at c.add_flow.ensures.sum in
    made_more (length c.add_flow.new.flows) c.args.table.now (elements c.args.pairs) (elements c.loop-pair.left)
    (elements c.take_next.new.self) p c.loop-pair.flows c.in-Some.ensures
    (rw c.add_flow.auto.flows c.loop-pair.invariant) c.add_flow.new.flows
    (λ i l. sum i (omega (arith, c.add_flow.auto.flows))
    ∙ ap (λ (counts : List NetCount). number_at c.loop-pair.flows i +ℤ p.mult *ℤ count_of counts i) read)
    (λ i l. c.add_flow.ensures.size i (omega (arith, c.add_flow.auto.flows)))
