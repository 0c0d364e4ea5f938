use Rattle.pesp_board.proofs.OpenLeaves.{are_open}
use Rattle.pesp_board.proofs.board.Board.open_leaves.Goals as goal

pub returns : goal.returns
returns c = rw (← c.self.view_is) (are_open c.self.inside.problem c.self.inside.tree c.self.inside.slots.items
    c.self.inside.queue c.self.inside.best c.self.inside.pairs c.most_of.result c.self.invariant
    c.items_differ.ensures c.most_of.ensures c.waiting_below.result c.waiting_below.ensures)
