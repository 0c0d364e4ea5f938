use Rattle.pesp_truth.proofs.Using as lemmas
use Rattle.pesp_truth.proofs.laws.used_rows_conflict.Goals as goal

pub returns : goal.returns
returns c = lemmas.used_rows_conflict
