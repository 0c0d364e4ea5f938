use Rattle.std.proofs.Common.{arith}
use Rattle.pesp_board.proofs.Gaps.{some_gap}
use Rattle.pesp_board.proofs.made_parts.first_gap.Goals as goal

pub unreachable-requires : goal.unreachable-requires
unreachable-requires c = some_gap c.args.problem.now c.args.node.now c.args.pairs.now c.requires.none
    (λ j d l. c.loop-pair.invariant j d (omega (arith, l)))
