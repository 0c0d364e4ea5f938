use Rattle.pesp_tree.proofs.Making as lemmas
use Rattle.pesp_tree.proofs.machine_laws.valid_works_make.Goals as goal

pub returns : goal.returns
returns c = lemmas.valid_works_make
