use Rattle.std.proofs.Common.{below_more, arith, ◌∙◌}
use Rattle.pesp_network.specs.Networks.{arcs_of_network}
use Rattle.pesp_network.proofs.Flooding.{starts, none_seen}
use Rattle.pesp_network.proofs.growth.grow.Goals as goal

pub loop-start-init : goal.loop-start-init
loop-start-init c =
    let g = c.in_ok-growth.growth in let e = c.in_ok-growth.ensures in
    record {
      grown = starts (arcs_of_network c.args.rows.now) g c.in_ok-chains.chains c.args.events c.in_ok-chains.ensures
          e.events e.by e.place e.last e.left e.order;
      closed = none_seen g c.args.events e.place;
      seen = λ x h. absurd (omega arith);
      events = e.events;
    }

pub loop-start-preserved : goal.loop-start-preserved
loop-start-preserved c =
    let i = c.loop-start.invariant in let e = c.in_ok-flood.ensures in
    record {
      grown = e.grown;
      closed = e.closed;
      seen = below_more _ _ (λ x h. e.seen x (i.seen x h)) e.start_seen;
      events = e.events ∙ i.events;
    }

pub returns-clause-all_seen : goal.returns-clause-all_seen
returns-clause-all_seen c = λ x h. c.loop-start.invariant.seen x (let t = c.loop-start-test.false in omega arith)
