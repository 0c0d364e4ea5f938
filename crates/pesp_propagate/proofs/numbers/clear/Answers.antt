use Rattle.std.proofs.Common.{arith}
use Rattle.pesp_propagate.proofs.Summing.{clears_all}
use Rattle.pesp_propagate.proofs.numbers.clear.Goals as goal

pub returns-clause-zeros : goal.returns-clause-zeros
returns-clause-zeros c =
    let t = c.loop-i-test.false in let n = c.loop-i.auto.numbers in
    clears_all c.args.numbers.now c.loop-i.numbers c.loop-i.i (omega arith) c.loop-i.invariant
