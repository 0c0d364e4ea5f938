use Rattle.std.proofs.Common.{◌∙◌, ap}
use Rattle.pesp_network.specs.Networks.{net_of_network}
use Rattle.pesp_domains.specs.Rows.{RowsValue}
use Rattle.pesp_domains.specs.Domains.{family_of}
use Rattle.pesp_propagate.proofs.Joining.{times_kept}
use Rattle.pesp_domains.proofs.Networks.{have_ends}
use Rattle.pesp_propagate.proofs.Propagating.{at_network, Ended, stable_of, exact_of, full_of}
use Rattle.pesp_propagate.proofs.propagation.propagate.Goals as goal

-- what the work ends with, in the words of the network
ended : (c : goal.After-drop-rows-inside-4) → Ended
    (net_of_network c.args.network.now) c.args.ranges.now c.args.network.now.events (family_of c.args.domains.now)
    (family_of c.settle_all.new.domains) c.settle_all.result
ended c = at_network c.args.network.now c.in_ok-rows.rows c.args.ranges.now c.args.domains.now
    c.settle_all.new.domains c.settle_all.result c.in_ok-rows.ensures.rows c.requires.domains.period
    (c.settle_all.ensures.sizes.period ∙ ap (λ (r : RowsValue). r.period) c.in_ok-rows.ensures.rows) (record {
      shrinks = c.settle_all.ensures.shrinks;
      outcome = c.settle_all.ensures.outcome;
      supported = c.settle_all.ensures.supported;
    })

pub returns-clause-keeps : goal.returns-clause-keeps
returns-clause-keeps c = (ended c).shrinks.keeps

pub returns-clause-timetables : goal.returns-clause-timetables
returns-clause-timetables c =
    times_kept (net_of_network c.args.network.now) c.args.ranges.now c.args.network.now.events
    (family_of c.args.domains.now) (family_of c.settle_all.new.domains) c.in_ok-rows.ensures.limits.some_period
    (have_ends c.args.network.now c.in_ok-rows.ensures.limits) (ended c).shrinks.keeps

pub returns-clause-stable : goal.returns-clause-stable
returns-clause-stable c = stable_of (net_of_network c.args.network.now) c.args.ranges.now c.args.network.now.events
    (family_of c.args.domains.now) (family_of c.settle_all.new.domains) c.settle_all.result (ended c)

pub returns-clause-exact : goal.returns-clause-exact
returns-clause-exact c = exact_of (net_of_network c.args.network.now) c.args.ranges.now c.args.network.now.events
    (family_of c.args.domains.now) (family_of c.settle_all.new.domains) c.settle_all.result (ended c)

pub returns-clause-full : goal.returns-clause-full
returns-clause-full c = λ f.
    full_of (net_of_network c.args.network.now) c.args.ranges.now c.args.network.now.events
    (family_of c.args.domains.now) c.settle_all.result c.in_ok-rows.ensures.limits.some_period
    (have_ends c.args.network.now c.in_ok-rows.ensures.limits) f
    (exact_of (net_of_network c.args.network.now) c.args.ranges.now c.args.network.now.events
    (family_of c.args.domains.now) (family_of c.settle_all.new.domains) c.settle_all.result (ended c))
