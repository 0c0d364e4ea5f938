use Rattle.std.proofs.Common.{arith}
use Rattle.pesp_nodes.proofs.Keeping.{whole_is}
use Rattle.pesp_nodes.proofs.left.are_whole.Goals as goal

pub returns : goal.returns
returns c t = whole_is c.args.arcs.now c.args.slacks.now c.requires.long (λ i l. c.loop-place.invariant i (omega arith))
