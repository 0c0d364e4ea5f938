use Rattle.std.proofs.Common.{arith}
use Rattle.std.proofs.lemmas.Grind.{common_steps}
use Rattle.pesp_bound.proofs.Gathering.{passed_more}
use Rattle.pesp_bound.proofs.differences.passed_rows.Goals as goal

pub loop-place-preserved : goal.loop-place-preserved
loop-place-preserved c =
    rw (c.in_ok-push-2.ensures.items, c.in_ok-push.ensures.items)
    (passed_more c.args.by_row.now c.loop-place.place c.loop-place.rows.items _ c.loop-place-test.true
    (omega arith) c.loop-place.invariant)

pub loop-place-preserved-then-is_empty : goal.loop-place-preserved-then-is_empty
loop-place-preserved-then-is_empty c = grind (arith, common_steps)
