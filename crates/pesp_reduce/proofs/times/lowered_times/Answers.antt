use Rattle.std.proofs.Common.{arith}
use Rattle.std.proofs.lemmas.Grind.{common_steps}
use Rattle.pesp_reduce.proofs.times.lowered_times.Goals as goal

pub lowered_time-requires-clause-time : goal.lowered_time-requires-clause-time
lowered_time-requires-clause-time c = grind (arith, common_steps)

pub lowered_time-requires-clause-shift : goal.lowered_time-requires-clause-shift
lowered_time-requires-clause-shift c = grind (arith, common_steps)

pub loop-first-preserved : goal.loop-first-preserved
loop-first-preserved c = grind (arith, common_steps)

pub returns : goal.returns
returns c = grind (arith, common_steps)
