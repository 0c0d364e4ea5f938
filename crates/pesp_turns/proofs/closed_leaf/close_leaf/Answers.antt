use Rattle.pesp_turns.proofs.Lent.{handed_gap}
use Rattle.pesp_turns.proofs.closed_leaf.close_leaf.Goals as goal

pub hand_in-requires : goal.hand_in-requires
hand_in-requires c = handed_gap c.args.board.now.problem c.args.board.now.state c.args.job.now c.args.cycle c.requires.lent c.requires.gap
