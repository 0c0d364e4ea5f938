use Rattle.std.proofs.Common.{vec_len, ◌-◌, arith, ◌∙◌}
use Rattle.pesp_network.specs.Networks.{arcs_of_network}
use Rattle.std.proofs.lemmas.List.{get_or_read}
use Rattle.pesp_network.proofs.Climbing.{up_below}
use Rattle.pesp_network.proofs.Reaching.{up_at, up_step, event_below, all_up}
use Rattle.pesp_network.proofs.bridges.reach.Goals as goal

pub take_up-requires-clause-event : goal.take_up-requires-clause-event
take_up-requires-clause-event c =
    let g = c.args.forest.now in let i = c.loop-count.invariant.most in let t = c.loop-count-test.true in let l = g.order.ok.0 in
    let n = c.requires.events in let b = event_below (vec_len g.up) (arcs_of_network c.args.rows.now) g
    (c.loop-count.count - 1) c.index-event.result.now c.requires (omega arith)
    (get_or_read g.order.items _ _ (omega arith) c.index-event.ensures 0) in omega arith

pub take_up-requires-clause-up : goal.take_up-requires-clause-up
take_up-requires-clause-up c = λ j. let n = c.requires.events in
    let b = up_below (vec_len c.args.forest.now.up) (arcs_of_network c.args.rows.now) c.args.forest.now c.index-event.result.now
    c.requires j in omega arith

pub loop-count-preserved : goal.loop-count-preserved
loop-count-preserved c =
    let g = c.args.forest.now in let i = c.loop-count.invariant.most in let t = c.loop-count-test.true in
    let l = g.order.ok.0 in let e = c.take_up.ensures in
    record {
      takes = up_step (vec_len g.up) (arcs_of_network c.args.rows.now) g c.loop-count.count c.index-event.result.now
          c.loop-count.reaches.low.items c.loop-count.reaches.high.items c.take_up.new.self.low.items
          c.take_up.new.self.high.items
          c.requires c.loop-count.invariant.takes t i (get_or_read g.order.items _ _ (omega arith) c.index-event.ensures 0) e.kept e.takes;
      most = omega arith;
      events = e.events ∙ c.loop-count.invariant.events;
    }

pub returns-clause-reaches : goal.returns-clause-reaches
returns-clause-reaches c = let t = c.loop-count-test.false in
    all_up (vec_len c.args.forest.now.up) (arcs_of_network c.args.rows.now) c.args.forest.now _ _ c.requires
    (up_at (vec_len c.args.forest.now.up) (arcs_of_network c.args.rows.now) c.args.forest.now c.loop-count.count 0 _ _
    (omega arith) c.loop-count.invariant.takes)
