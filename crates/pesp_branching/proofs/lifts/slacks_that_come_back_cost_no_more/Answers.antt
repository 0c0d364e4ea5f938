use Rattle.pesp_branching.proofs.Slacks.{timetable_again, costs_no_more}
use Rattle.pesp_branching.proofs.lifts.slacks_that_come_back_cost_no_more.Goals as goal

pub returns-clause-timetable : goal.returns-clause-timetable
returns-clause-timetable c = timetable_again

pub returns-clause-cost : goal.returns-clause-cost
returns-clause-cost c = costs_no_more
