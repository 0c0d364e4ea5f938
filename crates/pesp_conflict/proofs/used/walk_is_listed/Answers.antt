use Rattle.std.specs.Prelude.{Contains}
use Rattle.pesp_problem.specs.declared.row.SignedRow.{SignedRow}
use Rattle.pesp_conflict.proofs.Numbers.{more_at}
use Rattle.pesp_conflict.proofs.used.walk_is_listed.Goals as goal

pub loop-signed-preserved : goal.loop-signed-preserved
loop-signed-preserved c = more_at (λ (s : SignedRow). Contains c.args.listed.now s.row) c.args.walk.now
    c.loop-signed.signed-index _ c.loop-signed.invariant c.loop-signed-test.true
    (c.is_listed.ensures.only c.if-not-is_listed.false)
