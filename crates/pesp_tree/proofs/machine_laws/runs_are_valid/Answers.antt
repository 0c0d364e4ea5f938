use Rattle.pesp_tree.proofs.Runs as lemmas
use Rattle.pesp_tree.proofs.machine_laws.runs_are_valid.Goals as goal

pub returns : goal.returns
returns c = lemmas.runs_are_valid
