use Rattle.pesp_problem.specs.declared.pair.Pair.{Pair}
use Rattle.pesp_truth.specs.Used.{CycleIsListed}
use Rattle.pesp_conflict.proofs.Numbers.{more_at}
use Rattle.pesp_conflict.proofs.used.pairs_are_listed.Goals as goal

pub loop-pair-preserved : goal.loop-pair-preserved
loop-pair-preserved c = more_at (λ (p : Pair). CycleIsListed c.args.cycles.now c.args.listed.now p.cycle)
    c.args.pairs.now c.loop-pair.pair-index _ c.loop-pair.invariant c.loop-pair-test.true
    (c.cycle_is_listed.ensures c.if-not-cycle_is_listed.false)
