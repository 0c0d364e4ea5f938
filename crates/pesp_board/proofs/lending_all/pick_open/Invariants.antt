use Rattle.pesp_board.proofs.LentAll.{Picked}
use Rattle.pesp_board.proofs.lending_all.pick_open.Given as goal

abbrev pub invariant-loop-node : goal.invariant-loop-node
invariant-loop-node l = Picked l.queue l.best l.nodes l.node-index l.opens.items
