use Rattle.pesp_problem.proofs.NetTimetables.{net_timetables, net_cost-is}
use Rattle.pesp_problem.proofs.laws.timetables_are_those_of_the_net.Goals as goal

pub returns-clause-timetables : goal.returns-clause-timetables
returns-clause-timetables c = net_timetables

pub returns-clause-costs : goal.returns-clause-costs
returns-clause-costs c = net_cost-is
