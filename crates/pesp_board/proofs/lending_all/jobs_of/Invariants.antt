use Rattle.pesp_board.proofs.LentAll.{Numbering}
use Rattle.pesp_board.proofs.lending_all.jobs_of.Given as goal

abbrev pub invariant-loop-node : goal.invariant-loop-node
invariant-loop-node l = Numbering l.tree l.nodes l.first l.number l.node-index l.jobs.items
