use Rattle.std.proofs.Common.{◌∙◌, sym, arith}
use Rattle.std.proofs.lemmas.Bool.{false≢true}
use Rattle.pesp_board.proofs.LentAll.{picked_more, picked_less, picked_all}
use Rattle.pesp_board.proofs.lending_all.pick_open.Goals.{then-is_open+in_ok-push, else-is_open}
use Rattle.pesp_board.proofs.lending_all.pick_open.Goals as goal

pub loop-node-preserved : goal.loop-node-preserved
loop-node-preserved c = elim c.if-is_open.branch [
  | then-is_open+in_ok-push w ↦ rw w.opens-is (picked_more c.args.queue.now c.args.best.now c.args.nodes.now
      c.loop-node.node-index c.loop-node-test.true c.loop-node.opens.items c.loop-node.invariant _
      (c.is_open.ensures.0 w.if-is_open.true) w.in_ok-push.ensures.items)
  | else-is_open w ↦ rw w.opens-is (picked_less c.args.queue.now c.args.best.now c.args.nodes.now
      c.loop-node.node-index c.loop-node-test.true c.loop-node.opens.items c.loop-node.invariant
      (λ h. false≢true (sym w.if-is_open.false ∙ c.is_open.ensures.1 h)))
]

pub returns : goal.returns
returns c =
    let test = c.loop-node-test.false in
    picked_all c.args.queue.now c.args.best.now c.args.nodes.now c.loop-node.node-index c.loop-node.opens.items
    (omega (arith, test)) c.loop-node.invariant
