use Rattle.std.proofs.Common.{arith}
use Rattle.std.proofs.lemmas.Grind.{common_steps}
use Rattle.pesp_conflict.proofs.used.uses_only.Goals as goal

pub loop-line-preserved : goal.loop-line-preserved
loop-line-preserved c =
    let listed = c.line_is_listed.ensures c.args.rows c.is_whole-whole.ensures.only c.if-not-line_is_listed.false in
    grind (arith, common_steps)
