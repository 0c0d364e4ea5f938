use Rattle.std.proofs.Common.{rules}
use Rattle.pesp_network.specs.Networks.{arcs_of_network, net_of_network}
use Rattle.pesp_simplex.specs.Improvements.{IsImproved}
use Rattle.pesp_simplex.proofs.Networks.{improved_there}
use Rattle.pesp_simplex.proofs.improvement.improve.Goals as goal

improved : (c : goal.In_ok-improve_times) → IsImproved
    (net_of_network c.args.network.now) c.args.network.now.events c.args.times.now c.in_ok-improve_times.field-0
improved c =
    improved_there c.period.result c.args.network.now.period c.events.result c.args.network.now.events
    c.arcs.result.now (arcs_of_network c.args.network.now.rows) c.args.times.now c.in_ok-improve_times.field-0
    c.period.ensures.period c.events.ensures.events c.arcs.ensures.arcs c.in_ok-improve_times.ensures

pub returns-then-not-is_timetable-clause-not_feasible : goal.returns-then-not-is_timetable-clause-not_feasible
returns-then-not-is_timetable-clause-not_feasible c = search rules

pub improve_times-requires-clause-limits : goal.improve_times-requires-clause-limits
improve_times-requires-clause-limits c = rw (c.period.ensures.period, c.events.ensures.events) c.arcs.ensures.each

pub returns-clause-timetable : goal.returns-clause-timetable
returns-clause-timetable c = (improved c).timetable

pub returns-clause-cost : goal.returns-clause-cost
returns-clause-cost c = (improved c).cost

pub returns-clause-never_dearer : goal.returns-clause-never_dearer
returns-clause-never_dearer c = (improved c).never_dearer

pub returns-clause-forest : goal.returns-clause-forest
returns-clause-forest c = (improved c).forest

pub returns-clause-local : goal.returns-clause-local
returns-clause-local c = (improved c).ended
