use Rattle.pesp_tree.proofs.Adopting.{lends_each_run, none_open_then}
use Rattle.pesp_tree.proofs.machine_laws.all_lent_is_a_run_of_lends.Goals as goal

pub returns-clause-run : goal.returns-clause-run
returns-clause-run c = lends_each_run

pub returns-clause-none : goal.returns-clause-none
returns-clause-none c = none_open_then
