use Rattle.pesp_problem.proofs.Offsets.{exactly_left, ends_in_order}
use Rattle.pesp_problem.proofs.laws.offsets_left_are_all.Goals as goal

pub returns-clause-exactly : goal.returns-clause-exactly
returns-clause-exactly c = exactly_left

pub returns-clause-in_order : goal.returns-clause-in_order
returns-clause-in_order c = ends_in_order
