use Rattle.pesp_tasks.proofs.SharpJoining.{accepts_from_times, accepts_what_goes_on, accepts_what_is_worked_on, accepts_what_is_grafted}
use Rattle.pesp_tasks.proofs.laws.what_goes_on_with_marks_is_accepted.Goals as goal

pub returns-clause-from_times : goal.returns-clause-from_times
returns-clause-from_times c = accepts_from_times

pub returns-clause-resumed : goal.returns-clause-resumed
returns-clause-resumed c = accepts_what_goes_on

pub returns-clause-worked : goal.returns-clause-worked
returns-clause-worked c = accepts_what_is_worked_on

pub returns-clause-grafted : goal.returns-clause-grafted
returns-clause-grafted c = accepts_what_is_grafted
