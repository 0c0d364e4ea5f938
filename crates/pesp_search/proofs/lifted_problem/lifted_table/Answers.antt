use Rattle.std.proofs.Common.{◌+◌, ◌<◌, List, [], length, sym, ◌∙◌, subst}
use Rattle.pesp_problem.specs.declared.row.SignedRow.{SignedRow}
use Rattle.pesp_branching.proofs.Tables.{any_default}
use Rattle.pesp_search.proofs.Lifting.{AreLiftedTo, lifted_more}
use Rattle.pesp_search.proofs.lifted_problem.lifted_table.Goals as goal

pub loop-walk-preserved : goal.loop-walk-preserved
loop-walk-preserved c =
    let walks = c.args.walks.now in
    let n = c.loop-walk.walk-index in
    let inside : n < length walks = c.loop-walk-test.true in
    let lifted = c.in_ok-lift_walk.ensures in
    subst (λ (xs : List (List SignedRow)). AreLiftedTo c.args.reduced.now walks xs (n + 1)) (sym c.in_ok-push.ensures.items)
    (lifted_more c.args.reduced.now walks c.loop-walk.table.items n c.walk-item.result c.in_ok-lift_walk.field-0
    c.loop-walk.invariant (any_default walks n [] c.walk-item.result inside ∙ sym c.walk-item.is)
    (record { closes = lifted.closes; kept = lifted.kept; others = lifted.others; lower = lifted.lower; simple = lifted.simple }))
