use Rattle.pesp_tree.proofs.Least as lemmas
use Rattle.pesp_tree.proofs.machine_laws.least_value_is_the_least.Goals as goal

pub returns-clause-only : goal.returns-clause-only
returns-clause-only c = lemmas.least_is_only
