use Rattle.std.proofs.Common.{ap, ◌∙◌}
use Rattle.pesp_board.proofs.Opening.{opening_board}
use Rattle.pesp_board.proofs.board.Board.new.Goals as goal

pub invariant_of-result : goal.invariant_of-result
invariant_of-result c =
    opening_board c.args.problem c.in_ok-tree.tree c.new-2.result.items c.insert.new.self c.reserve.new.self
    c.keeps_limits.ensures.network c.keeps_limits.ensures.table c.in_ok-tree.ensures.tree
    c.in_ok-tree.ensures.whole c.new-2.ensures.items
    (c.reserve.ensures.waiting ∙ ap (λ q. q.waiting) c.new-queue.ensures)
    (c.reserve.ensures.parked ∙ ap (λ q. q.parked) c.new-queue.ensures) c.insert.ensures.waiting
    c.insert.ensures.parked
