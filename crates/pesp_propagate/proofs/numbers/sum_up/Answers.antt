use Rattle.pesp_propagate.proofs.Summing.{sums_next}
use Rattle.pesp_propagate.proofs.numbers.sum_up.Goals as goal

pub carry-requires-clause-room : goal.carry-requires-clause-room
carry-requires-clause-room c = rw (sums_next c.args.numbers.now c.loop-i.numbers c.loop-i.i c.loop-i.invariant)
    (c.requires.level c.loop-i.i)
