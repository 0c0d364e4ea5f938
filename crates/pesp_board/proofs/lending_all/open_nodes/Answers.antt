use Rattle.pesp_board.proofs.LentAll.{found_within}
use Rattle.pesp_board.proofs.lending_all.open_nodes.Goals as goal

pub returns-clause-within : goal.returns-clause-within
returns-clause-within c = found_within c.args.tree.now c.args.queue.now c.args.best.now c.in_ok-leaves.leaves.items
    c.deref.result.now c.pick_open.result c.deref.ensures.value c.in_ok-leaves.ensures.leaves c.pick_open.ensures
