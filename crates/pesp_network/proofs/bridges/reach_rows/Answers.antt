use Rattle.std.proofs.Common.{vec_len, arith, ◌∙◌}
use Rattle.pesp_network.specs.Networks.{arcs_of_network}
use Rattle.pesp_network.proofs.Places.{count, tail_below, head_below, tail_more, head_more}
use Rattle.pesp_network.proofs.Reaching.{taken_more, taken_all}
use Rattle.pesp_network.proofs.bridges.reach_rows.Goals as goal

pub take_row-requires-clause-event : goal.take_row-requires-clause-event
take_row-requires-clause-event c = let b = tail_below (vec_len c.args.forest.now.up) c.args.rows.now c.loop-i.i c.requires.ends
    c.loop-i-test.true in let n = c.requires.events in omega arith

pub take_row-requires-clause-other : goal.take_row-requires-clause-other
take_row-requires-clause-other c = let b = head_below (vec_len c.args.forest.now.up) c.args.rows.now c.loop-i.i c.requires.ends
    c.loop-i-test.true in let n = c.requires.events in omega arith

pub take_row-requires-in-loop-i-clause-event : goal.take_row-requires-in-loop-i-clause-event
take_row-requires-in-loop-i-clause-event c = let b =
    head_below (vec_len c.args.forest.now.up) c.args.rows.now c.loop-i.i c.requires.ends c.loop-i-test.true in
    let n = c.requires.events in omega arith

pub take_row-requires-in-loop-i-clause-other : goal.take_row-requires-in-loop-i-clause-other
take_row-requires-in-loop-i-clause-other c = let b =
    tail_below (vec_len c.args.forest.now.up) c.args.rows.now c.loop-i.i c.requires.ends c.loop-i-test.true in
    let n = c.requires.events in omega arith

pub loop-i-preserved : goal.loop-i-preserved
loop-i-preserved c =
    let rows = c.args.rows.now in let i = c.loop-i.i in let g = c.args.forest.now in
    let a = c.take_row.ensures in let b = c.take_row-in-loop-i.ensures in
    record {
      takes = taken_more (vec_len g.up) (arcs_of_network rows) g i _ _ c.loop-i.reaches.low.items
          c.loop-i.reaches.high.items c.take_row.new.self.low.items c.take_row.new.self.high.items
          c.take_row-in-loop-i.new.self.low.items c.take_row-in-loop-i.new.self.high.items
          c.requires c.loop-i.invariant.takes (let n = count rows in let t = c.loop-i-test.true in omega arith)
          (tail_more rows i c.loop-i-test.true) (head_more rows i c.loop-i-test.true)
          (record { kept = a.kept; takes = a.takes }) (record { kept = b.kept; takes = b.takes });
      events = b.events ∙ a.events ∙ c.loop-i.invariant.events;
    }

pub returns-clause-takes : goal.returns-clause-takes
returns-clause-takes c = let t = c.loop-i-test.false in let a = c.loop-i.auto.i-end in
    let n = count c.args.rows.now in taken_all (vec_len c.args.forest.now.up)
    (arcs_of_network c.args.rows.now) c.args.forest.now c.loop-i.i _ _ _ (omega arith) c.loop-i.invariant.takes
