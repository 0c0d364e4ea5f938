use Rattle.pesp_truth.proofs.Sums.{sum_by_rows}
use Rattle.pesp_truth.proofs.lemma_laws.lemma_sums_by_rows.Goals as goal

pub returns : goal.returns
returns c = sum_by_rows
