use Rattle.pesp_search.proofs.RootLooks.{not_over, not_spent}
use Rattle.pesp_search.proofs.root.lend_root.Goals as goal

pub unreachable-requires : goal.unreachable-requires
unreachable-requires c = not_over c.args.board.now.problem c.args.board.now.state c.lend.new.self.state c.requires
    (rw c.in-Ok-None.field-0-is at c.in-Ok-None.ensures.state)

pub unreachable-requires-in-Err-NumbersSpent : goal.unreachable-requires-in-Err-NumbersSpent
unreachable-requires-in-Err-NumbersSpent c = not_spent c.args.board.now.problem c.args.board.now.state
    c.lend.new.self.state c.requires (rw c.in-Err-NumbersSpent.field-0-is at c.in-Err-NumbersSpent.ensures.state)
